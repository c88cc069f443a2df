-- The first number at which a test holds: of two tests, of a test one clock later, and the flag that it sets.
use Rattle.std.proofs.Common.{◌≡◌, ℕ, zero, suc, ◌+◌, ◌<◌, ◌≤◌, nat_lt, add-one, if◌then◌else◌, Bool, true, false, ◌&&◌, ◌||◌, not, Option, Some, None, IfSome, refl, sym, ap, ◌∙◌, arith, inl, inr}
use Rattle.std.proofs.lemmas.Bool.{cases_lt, cases_order, lt-ltb, le-ltb}
use Rattle.std.proofs.lemmas.Bool.Decides.{nat_tests}
use Rattle.avr_timers.specs.First.{First, earlier_of, is_before, seen}

-- two tests that agree have the same first number
pub first-same : (p q : ℕ → Bool) (o : Option ℕ) → ((i : ℕ) → p i ≡ q i) → First p o → First q o
first-same p q None same first = λ i. sym (same i) ∙ first i
first-same p q (Some w) same first = (sym (same w) ∙ first.0, λ i l. sym (same i) ∙ first.1 i l)

or-false : (b : Bool) → (b || false) ≡ b
or-false true = refl
or-false false = refl

seen-next : (flag : Bool) (p : ℕ → Bool) (w k : ℕ) → First p (Some w) → ((flag || nat_lt w k) || p k) ≡ (flag || nat_lt w (suc k))
seen-next true p w k first = refl
seen-next false p w k first =
    elim (cases_order w k) [
      | inl same ↦ (let a : nat_lt w k ≡ false = grind (arith, nat_tests) in let b : nat_lt w (suc k) ≡ true = grind (arith, nat_tests) in rw (a, b) (ap p (sym same) ∙ first.0))
      | inr (inl less) ↦ (let a : nat_lt w k ≡ true = grind (arith, nat_tests) in let b : nat_lt w (suc k) ≡ true = grind (arith, nat_tests) in rw (a, b) refl)
      | inr (inr more) ↦ (let a : nat_lt w k ≡ false = grind (arith, nat_tests) in let b : nat_lt w (suc k) ≡ false = grind (arith, nat_tests) in rw (a, b) (first.1 k more))
    ]

-- a flag after k clocks, from the first that sets it
pub seen-first : (flag : Bool) (p : ℕ → Bool) (o : Option ℕ) (k : ℕ) → First p o → seen flag p k ≡ (flag || is_before o k)
unfolding seen
seen-first flag p None zero first = sym (or-false flag)
seen-first flag p (Some w) zero first = sym (ap (λ b. flag || b) (le-ltb w 0 (omega arith)) ∙ or-false flag)
seen-first flag p None (suc k) first = ap (λ b. b || p k) (seen-first flag p None k first) ∙ (ap (λ b. (flag || false) || b) (first k) ∙ or-false (flag || false))
seen-first flag p (Some w) (suc k) first = ap (λ b. b || p k) (seen-first flag p (Some w) k first) ∙ seen-next flag p w k first

either-false : (a b : Bool) → a ≡ false → b ≡ false → (a || b) ≡ false
either-false a b e f = ap (λ x. x || b) e ∙ f

either-true : (a b : Bool) → b ≡ true → (a || b) ≡ true
either-true true b f = refl
either-true false b f = f

seen-on : (p : ℕ → Bool) (k : ℕ) → seen true p k ≡ true
unfolding seen
seen-on p zero = refl
seen-on p (suc k) = ap (λ b. b || p k) (seen-on p k)

and-off : (b : Bool) → (b && false) ≡ false
and-off true = refl
and-off false = refl

-- the first number that sets a flag that is not set: none where it is set
pub first-unset : (flag : Bool) (p : ℕ → Bool) (o : Option ℕ) → First p o → First (λ k. p k && not (seen flag p k)) (if flag then None else o)
first-unset true p o first = λ i. ap (λ b. p i && not b) (seen-on p i) ∙ and-off (p i)
first-unset false p None first = λ i. ap (λ b. b && not (seen false p i)) (first i)
first-unset false p (Some w) first =
    let unseen : seen false p w ≡ false = seen-first false p (Some w) w first ∙ le-ltb w w (omega arith) in
    (ap (λ b. b && not (seen false p w)) first.0 ∙ ap not unseen, λ i l. ap (λ b. b && not (seen false p i)) (first.1 i l))

-- of two numbers with a bound, the lesser has it
pub earlier-within : (a b : Option ℕ) (most : ℕ) → IfSome a (λ w. w ≤ most) → IfSome b (λ w. w ≤ most) → IfSome (earlier_of a b) (λ w. w ≤ most)
earlier-within None b most e f = f
earlier-within (Some v) None most e f = e
earlier-within (Some v) (Some w) most e f = pick (nat_lt v w)
  where
    pick : (sooner : Bool) → IfSome (if sooner then Some v else Some w) (λ x. x ≤ most)
    pick true = e
    pick false = f

pub unset-within : (flag : Bool) (o : Option ℕ) (most : ℕ) → IfSome o (λ w. w ≤ most) → IfSome (if flag then None else o) (λ w. w ≤ most)
unset-within true o most e = tt
unset-within false o most e = e

-- the first number at which one of two tests holds
pub first-either : (p q : ℕ → Bool) (a b : Option ℕ) → First p a → First q b → First (λ i. p i || q i) (earlier_of a b)
first-either p q None None f g = λ i. either-false (p i) (q i) (f i) (g i)
first-either p q None (Some w) f g = (either-true (p w) (q w) g.0, λ i l. either-false (p i) (q i) (f i) (g.1 i l))
first-either p q (Some v) None f g = (ap (λ b. b || q v) f.0, λ i l. either-false (p i) (q i) (f.1 i l) (g i))
first-either p q (Some v) (Some w) f g =
    elim (cases_lt v w) [
      | inl less ↦ (let e = lt-ltb v w less in rw e (ap (λ b. b || q v) f.0, λ i l. either-false (p i) (q i) (f.1 i l) (g.1 i (omega arith))))
      | inr more ↦ (let e = le-ltb v w more in rw e (either-true (p w) (q w) g.0, λ i l. either-false (p i) (q i) (f.1 i (omega arith)) (g.1 i l)))
    ]

below-shift : (p : ℕ → Bool) (w i : ℕ) → p 0 ≡ false → ((k : ℕ) → k < w → p (suc k) ≡ false) → i < w + 1 → p i ≡ false
below-shift p w zero e f l = e
below-shift p w (suc i) e f l = f i (omega arith)

-- of a test that does not hold at 0
pub first-shift : (p : ℕ → Bool) (w : ℕ) → p 0 ≡ false → First (λ i. p (suc i)) (Some w) → First p (Some (w + 1))
first-shift p w e f = (ap p (add-one w) ∙ f.0, λ i l. below-shift p w i e f.1 l)
