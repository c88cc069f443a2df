-- What one row more, before all others, owns.
use Rattle.std.proofs.Common.{◌≡◌, ℕ, ◌+◌, ◌-◌, ◌<◌, ◌≤◌, Bool, true, false, ◌&&◌, not, cond, min, max, Option, Some, None, List, [], ◌∷◌, arith, refl, sym, ap, ◌∙◌}
use Rattle.std.proofs.Math.Dec.{leb, eqb}
use Rattle.std.specs.List.{count_by, range_with_len}
use Rattle.std.specs.Option.{option_or, is_some, is_none}
use Rattle.std.proofs.lemmas.Bool.Decides.{nat_tests}
use Rattle.std.proofs.lemmas.Bool.{le-leb, lt-leb, leb-true, leb-false, and_right}
use Rattle.node_core.specs.declared.row.Row.{Row}
use Rattle.node_monitors.specs.Owner.{owner, owned, owns, passes, cycles_of}
use Rattle.node_monitors.specs.Account.{lead}
use Rattle.node_monitors.specs.Taken.{unowned}
use Rattle.node_monitors.proofs.Counts.{bit, between, count-add, count-same, count-bits, count-none, count-between, count-equal}

tells_step : (b : Bool) (o : Option Row) (r : Row) (t first free c : ℕ) → first ≤ c → is_some o ≡ leb free c →
    is_some (option_or o (cond (b && leb t c) (Some r) None)) ≡ leb (cond b (min (max t first) free) free) c
tells_step false None r t first free c h k = k
tells_step false (Some x) r t first free c h k = k
tells_step true (Some x) r t first free c h k =
    let at : free ≤ c = leb-true free c (sym k) in
    sym (le-leb (min (max t first) free) c (omega arith))
tells_step true None r t first free c h k = late (leb t c) refl
  where
    late : (b : Bool) → leb t c ≡ b → is_some (cond b (Some r) None) ≡ leb (min (max t first) free) c
    late true e = let at : t ≤ c = leb-true t c e in sym (le-leb (min (max t first) free) c (omega arith))
    late false e =
        let at : c < t = leb-false t c e in
        let below : c < free = leb-false free c (sym k) in
        sym (lt-leb (min (max t first) free) c (omega arith))

-- a cycle of the window has an owner from the first one on that has
pub owner-tells : (node : ℕ) (window : ℕ × ℕ) (rows : List Row) (c : ℕ) → window.0 ≤ c → c < window.1 → is_some (owner node rows c) ≡ leb (unowned node window rows) c
unfolding owner unowned
owner-tells node window [] c low high = sym (lt-leb (max window.0 window.1) c (omega arith))
owner-tells node window (r ∷ rows) c low high =
    tells_step (owns node r) (owner node rows c) r r.cycle window.0 (unowned node window rows) c low (owner-tells node window rows c low high)

pub unowned-low : (node : ℕ) (window : ℕ × ℕ) (rows : List Row) → window.0 ≤ unowned node window rows
unfolding unowned
unowned-low node window [] = omega arith
unowned-low node window (r ∷ rows) = both (owns node r) (unowned-low node window rows)
  where
    both : (b : Bool) → window.0 ≤ unowned node window rows → window.0 ≤ cond b (min (max r.cycle window.0) (unowned node window rows)) (unowned node window rows)
    both true h = omega arith
    both false h = h

pub unowned-high : (node : ℕ) (window : ℕ × ℕ) (rows : List Row) → unowned node window rows ≤ max window.0 window.1
unfolding unowned
unowned-high node window [] = omega arith
unowned-high node window (r ∷ rows) = both (owns node r) (unowned-high node window rows)
  where
    both : (b : Bool) → unowned node window rows ≤ max window.0 window.1 → cond b (min (max r.cycle window.0) (unowned node window rows)) (unowned node window rows) ≤ max window.0 window.1
    both true h = omega arith
    both false h = h

not_from : (o : Option Row) (b : Bool) → is_some o ≡ b → is_none o ≡ not b
not_from o b e = ap not e

lead_test : (free first c : ℕ) → first ≤ c → not (leb free c) ≡ between first free c
lead_test free first c h = grind (arith, nat_tests)

-- the cycles without owner are those below the first that has one
pub lead-is : (node : ℕ) (window : ℕ × ℕ) (rows : List Row) → lead node window rows ≡ unowned node window rows - window.0
unfolding lead
lead-is node window rows =
    let low : window.0 ≤ unowned node window rows = unowned-low node window rows in
    let high : unowned node window rows ≤ max window.0 window.1 = unowned-high node window rows in
    let same : count_by (λ c. is_none (owner node rows c)) (cycles_of window) ≡ count_by (between window.0 (unowned node window rows)) (cycles_of window) =
    count-same (λ c. is_none (owner node rows c)) (between window.0 (unowned node window rows)) window.0 (window.1 - window.0)
    (λ c h k. not_from (owner node rows c) (leb (unowned node window rows) c) (owner-tells node window rows c h (omega arith)) ∙ lead_test (unowned node window rows) window.0 c h) in
    omega (arith, same, count-between window.0 (unowned node window rows) window.0 (window.1 - window.0) (omega arith))

point_step : (test : Row → Bool) (o : Option Row) (r : Row) (t first free c : ℕ) → first ≤ c → is_some o ≡ leb free c →
    bit (passes test (option_or o (cond (leb t c) (Some r) None))) ≡ bit (passes test o) + bit (between (min (max t first) free) free c && test r)
point_step test (Some x) r t first free c h k =
    let at : free ≤ c = leb-true free c (sym k) in
    let out : between (min (max t first) free) free c ≡ false = grind (arith, nat_tests) in
    rw out (omega arith)
point_step test None r t first free c h k = late (leb t c) refl
  where
    late : (b : Bool) → leb t c ≡ b → bit (passes test (cond b (Some r) None)) ≡ 0 + bit (between (min (max t first) free) free c && test r)
    late true e =
        let at : t ≤ c = leb-true t c e in
        let below : c < free = leb-false free c (sym k) in
        let in' : between (min (max t first) free) free c ≡ true = grind (arith, nat_tests) in
        rw in' (omega arith)
    late false e =
        let at : c < t = leb-false t c e in
        let below : c < free = leb-false free c (sym k) in
        let out : between (min (max t first) free) free c ≡ false = grind (arith, nat_tests) in
        rw out refl

-- the cycles that a row gets of those that had no owner
abbrev pub gets : (ℕ → Row → Bool) → ℕ × ℕ → ℕ → Row → ℕ
gets test window free r = count_by (λ c. between (min (max r.cycle window.0) free) free c && test c r) (cycles_of window)

pub owned-step : (test : ℕ → Row → Bool) (node : ℕ) (window : ℕ × ℕ) (r : Row) (rows : List Row) → owns node r ≡ true →
    owned test node window (r ∷ rows) ≡ owned test node window rows + gets test window (unowned node window rows) r
unfolding owned owner
owned-step test node window r rows e =
    let free : ℕ = unowned node window rows in
    count-add (λ c. passes (test c) (option_or (owner node rows c) (cond (owns node r && leb r.cycle c) (Some r) None)))
    (λ c. passes (test c) (owner node rows c))
    (λ c. between (min (max r.cycle window.0) (unowned node window rows)) (unowned node window rows) c && test c r)
    window.0 (window.1 - window.0)
    (λ c h k. rw e (point_step (test c) (owner node rows c) r r.cycle window.0 (unowned node window rows) c h (owner-tells node window rows c h (omega arith))))

or_none : (o : Option Row) → option_or o None ≡ o
or_none None = refl
or_none (Some r) = refl

pub owned-other : (test : ℕ → Row → Bool) (node : ℕ) (window : ℕ × ℕ) (r : Row) (rows : List Row) → owns node r ≡ false →
    owned test node window (r ∷ rows) ≡ owned test node window rows
unfolding owned owner
owned-other test node window r rows e =
    count-same (λ c. passes (test c) (option_or (owner node rows c) (cond (owns node r && leb r.cycle c) (Some r) None)))
    (λ c. passes (test c) (owner node rows c)) window.0 (window.1 - window.0)
    (λ c h k. rw e (ap (passes (test c)) (or_none (owner node rows c))))

pub gets-none : (test : ℕ → Row → Bool) (window : ℕ × ℕ) (free : ℕ) (r : Row) → ((c : ℕ) → test c r ≡ false) → gets test window free r ≡ 0
gets-none test window free r h =
    count-none (λ c. between (min (max r.cycle window.0) free) free c && test c r) window.0 (window.1 - window.0)
    (λ c low high. and_right (between (min (max r.cycle window.0) free) free c) (test c r) (h c))

and_true : (b c : Bool) → c ≡ true → (b && c) ≡ b
and_true true c e = e
and_true false c e = refl

pub gets-all : (test : ℕ → Row → Bool) (window : ℕ × ℕ) (free : ℕ) (r : Row) → window.0 ≤ free → free ≤ max window.0 window.1 → ((c : ℕ) → test c r ≡ true) →
    gets test window free r ≡ free - min (max r.cycle window.0) free
gets-all test window free r low high h =
    let same : gets test window free r ≡ count_by (between (min (max r.cycle window.0) free) free) (cycles_of window) =
    count-same (λ c. between (min (max r.cycle window.0) free) free c && test c r) (between (min (max r.cycle window.0) free) free)
    window.0 (window.1 - window.0) (λ c l k. and_true (between (min (max r.cycle window.0) free) free c) (test c r) (h c)) in
    omega (arith, same, count-between (min (max r.cycle window.0) free) free window.0 (window.1 - window.0) (omega arith))

-- the row's own cycle
own_point : (t first free c : ℕ) → first ≤ c → bit (between (min (max t first) free) free c && eqb t c) ≡ bit (eqb t c && between first free t)
own_point t first free c h = grind (arith, nat_tests)

own_end : (t first free n : ℕ) → free ≤ first + n → bit (between first (first + n) t && between first free t) ≡ bit (between first free t)
own_end t first free n h = grind (arith, nat_tests)

count_and : (k a n : ℕ) (b : Bool) → count_by (λ c. eqb k c && b) (range_with_len a n) ≡ bit (between a (a + n) k && b)
count_and k a n true =
    count-same (λ c. eqb k c && true) (λ c. eqb k c) a n (λ c l h. and_true (eqb k c) true refl) ∙ count-equal k a n ∙ ap bit (sym (and_true (between a (a + n) k) true refl))
count_and k a n false =
    count-none (λ c. eqb k c && false) a n (λ c l h. and_right (eqb k c) false refl) ∙ ap bit (sym (and_right (between a (a + n) k) false refl))

pub gets-own : (test : ℕ → Row → Bool) (window : ℕ × ℕ) (free : ℕ) (r : Row) → window.0 ≤ free → free ≤ max window.0 window.1 → ((c : ℕ) → test c r ≡ eqb r.cycle c) →
    gets test window free r ≡ bit (between window.0 free r.cycle)
gets-own test window free r low high h =
    let n : ℕ = window.1 - window.0 in
    count-bits (λ c. between (min (max r.cycle window.0) free) free c && test c r) (λ c. eqb r.cycle c && between window.0 free r.cycle) window.0 (window.1 - window.0)
    (λ c l k. rw (h c) (own_point r.cycle window.0 free c l))
    ∙ count_and r.cycle window.0 (window.1 - window.0) (between window.0 free r.cycle)
    ∙ own_end r.cycle window.0 free (window.1 - window.0) (omega arith)

split_bit : (b c : Bool) → bit b ≡ bit (b && not c) + bit (b && c)
split_bit true true = refl
split_bit true false = refl
split_bit false c = refl

-- all but the row's own cycle
pub gets-rest : (test : ℕ → Row → Bool) (window : ℕ × ℕ) (free : ℕ) (r : Row) → window.0 ≤ free → free ≤ max window.0 window.1 → ((c : ℕ) → test c r ≡ not (eqb r.cycle c)) →
    gets test window free r ≡ (free - min (max r.cycle window.0) free) - bit (between window.0 free r.cycle)
gets-rest test window free r low high h =
    let both : gets (λ c r. true) window free r ≡ gets test window free r + gets (λ c r. eqb r.cycle c) window free r =
    count-add (λ c. between (min (max r.cycle window.0) free) free c && true)
    (λ c. between (min (max r.cycle window.0) free) free c && test c r)
    (λ c. between (min (max r.cycle window.0) free) free c && eqb r.cycle c)
    window.0 (window.1 - window.0)
    (λ c l k. rw (h c, and_true (between (min (max r.cycle window.0) free) free c) true refl) (split_bit (between (min (max r.cycle window.0) free) free c) (eqb r.cycle c))) in
    omega (arith, both, gets-all (λ c r. true) window free r low high (λ c. refl), gets-own (λ c r. eqb r.cycle c) window free r low high (λ c. refl))
