-- Many clocks of a timer's counter: the state after them, and the first that sets a flag.
use Rattle.std.proofs.Common.{◌≡◌, ℕ, zero, suc, ◌+◌, ◌-◌, ◌/◌, ◌<◌, ◌≤◌, ◌==◌, cond, ◌⊎◌, inl, inr, nat_lt, if◌then◌else◌, Bool, true, false, not, ◌||◌, ◌&&◌, Option, Some, None, IfSome, IsSome, is_some, refl, sym, ap, ◌∙◌, arith}
use Rattle.std.proofs.lemmas.Bool.{cases_lt, eq-eqb, eqb-false, lt-ltb, ne_eqb, or_parts}
use Rattle.avr_timers.specs.Clock.{clocked, clocks_of, cycles, many, sets_at}
use Rattle.avr_timers.specs.Counter.{path}
use Rattle.avr_timers.specs.First.{First, earlier_of, is_before, seen}
use Rattle.avr_timers.proofs.Cycles.{counted-until, cycles-clocks, cycles-halted, kept-until, many-zero, moved-until}
use Rattle.avr_timers.proofs.First.{first-same, first-either, first-unset, seen-first}
use Rattle.avr_timers.proofs.Calm.{flags_or-none, flags_or-set, without-none}
use Rattle.avr_timers.specs.declared.flags.TimerFlags.{TimerFlags}
use Rattle.avr_timers.specs.declared.prescaler.Prescaler.{Prescaler}
use Rattle.avr_timers.specs.declared.prescaler.Prescaler.TheVariants.{Own, Shared}
use Rattle.avr_timers.specs.declared.timer_counter.TimerCounter.{TimerCounter}
use Rattle.avr_timers.specs.Prescaler.{divider_of}
use Rattle.avr_timers.specs.Timer.{changes, changes_flag_at, clock, counter_cycle, divider, meets, set_flags, sets, sets_flag_at, top, top_of, count_at}

-- whether it stands at a value after k clocks, none blocked
abbrev pub at : TimerCounter → Option ℕ → ℕ → Bool
at c value k = meets false (count_at c k) value

-- a counter whose clock is not blocked, after k clocks
abbrev pub ran : TimerCounter → ℕ → TimerCounter
ran c k = record c {
  count = count_at c k;
  flags = record {
    tov = seen c.flags.tov (λ i. count_at c i == c.maximum) k;
    ocf_a = seen c.flags.ocf_a (λ i. count_at c i == c.compare_a) k;
    ocf_b = seen c.flags.ocf_b (at c c.compare_b) k;
    ocf_c = seen c.flags.ocf_c (at c c.compare_c) k;
    icf = seen c.flags.icf (at c c.icr) k;
  };
  match_blocked = false;
}

pub many-clock : (c : TimerCounter) (k : ℕ) → c.match_blocked ≡ false → many clock k c ≡ ran c k
unfolding many clock path seen count_at
many-clock c zero e = ap (λ (b : Bool). let u : TimerCounter = record c { match_blocked = b } in u) e
many-clock c (suc k) e = ap clock (many-clock c k e)

-- a clock leaves the prescaler alone
pub keeps : (c : TimerCounter) → divider (clock c) ≡ divider c
unfolding clock
keeps c = refl

-- what the code computes is `ran`
pub ran-from : (c : TimerCounter) (k count : ℕ) (x r s t i : Option ℕ) (tov ocf_a ocf_b ocf_c icf : Bool) → c.match_blocked ≡ false
    → First (λ j. count_at c j == c.maximum) x → First (λ j. count_at c j == c.compare_a) r → First (at c c.compare_b) s → First (at c c.compare_c) t → First (at c c.icr) i
    → count ≡ count_at c k → tov ≡ (c.flags.tov || is_before x k) → ocf_a ≡ (c.flags.ocf_a || is_before r k) → ocf_b ≡ (c.flags.ocf_b || is_before s k)
    → ocf_c ≡ (c.flags.ocf_c || is_before t k) → icf ≡ (c.flags.icf || is_before i k)
    → (let u : TimerCounter = record c { count = count; flags = record { tov = tov; ocf_a = ocf_a; ocf_b = ocf_b; ocf_c = ocf_c; icf = icf } } in u) ≡ many clock k c
ran-from c k count x r s t i tov ocf_a ocf_b ocf_c icf e fx fr fs ft fi hn hx hr hs ht hi =
    let sx = seen-first c.flags.tov (λ j. count_at c j == c.maximum) x k fx in
    let sr = seen-first c.flags.ocf_a (λ j. count_at c j == c.compare_a) r k fr in
    let ss = seen-first c.flags.ocf_b (at c c.compare_b) s k fs in
    let st = seen-first c.flags.ocf_c (at c c.compare_c) t k ft in
    let si = seen-first c.flags.icf (at c c.icr) i k fi in
    let all = many-clock c k e in
    cc

-- whether the clock after k clocks, none blocked, sets a flag
abbrev sets_after : TimerCounter → ℕ → Bool
sets_after c k = count_at c k == c.maximum || count_at c k == c.compare_a || at c c.compare_b k || at c c.compare_c k || at c c.icr k

-- the first clock that sets a flag, none blocked
pub first-ran : (c : TimerCounter) (x r s t i : Option ℕ) → c.match_blocked ≡ false
    → First (λ j. count_at c j == c.maximum) x → First (λ j. count_at c j == c.compare_a) r → First (at c c.compare_b) s → First (at c c.compare_c) t → First (at c c.icr) i
    → First (λ k. sets (many clock k c)) (earlier_of (earlier_of (earlier_of (earlier_of x r) s) t) i)
first-ran c x r s t i e fx fr fs ft fi =
    first-same (sets_after c) (λ k. sets (many clock k c)) (earlier_of (earlier_of (earlier_of (earlier_of x r) s) t) i)
    (λ k. sym (ap sets (many-clock c k e)))
    (first-either (λ j. count_at c j == c.maximum || count_at c j == c.compare_a || at c c.compare_b j || at c c.compare_c j) (at c c.icr) (earlier_of (earlier_of (earlier_of x r) s) t) i
    (first-either (λ j. count_at c j == c.maximum || count_at c j == c.compare_a || at c c.compare_b j) (at c c.compare_c) (earlier_of (earlier_of x r) s) t
    (first-either (λ j. count_at c j == c.maximum || count_at c j == c.compare_a) (at c c.compare_b) (earlier_of x r) s
    (first-either (λ j. count_at c j == c.maximum) (λ j. count_at c j == c.compare_a) x r fx fr) fs) ft) fi)

-- whether it sets one that is not set
abbrev changes_after : TimerCounter → ℕ → Bool
changes_after c k = (count_at c k == c.maximum && not (seen c.flags.tov (λ i. count_at c i == c.maximum) k)) || (count_at c k == c.compare_a && not (seen c.flags.ocf_a (λ i. count_at c i == c.compare_a) k)) || (at c c.compare_b k && not (seen c.flags.ocf_b (at c c.compare_b) k)) || (at c c.compare_c k && not (seen c.flags.ocf_c (at c c.compare_c) k)) || (at c c.icr k && not (seen c.flags.icf (at c c.icr) k))

-- the first clock that does, none blocked
pub first-changed : (c : TimerCounter) (x r s t i : Option ℕ) → c.match_blocked ≡ false
    → First (λ j. count_at c j == c.maximum) x → First (λ j. count_at c j == c.compare_a) r → First (at c c.compare_b) s → First (at c c.compare_c) t → First (at c c.icr) i
    → First (λ k. changes (many clock k c)) (earlier_of (earlier_of (earlier_of (earlier_of (if c.flags.tov then None else x) (if c.flags.ocf_a then None else r)) (if c.flags.ocf_b then None else s)) (if c.flags.ocf_c then None else t)) (if c.flags.icf then None else i))
first-changed c x r s t i e fx fr fs ft fi =
    let tov : ℕ → Bool = λ k. count_at c k == c.maximum && not (seen c.flags.tov (λ j. count_at c j == c.maximum) k) in
    let ocf_a : ℕ → Bool = λ k. count_at c k == c.compare_a && not (seen c.flags.ocf_a (λ j. count_at c j == c.compare_a) k) in
    let ocf_b : ℕ → Bool = λ k. at c c.compare_b k && not (seen c.flags.ocf_b (at c c.compare_b) k) in
    let ocf_c : ℕ → Bool = λ k. at c c.compare_c k && not (seen c.flags.ocf_c (at c c.compare_c) k) in
    let icf : ℕ → Bool = λ k. at c c.icr k && not (seen c.flags.icf (at c c.icr) k) in
    first-same (changes_after c) (λ k. changes (many clock k c)) _
    (λ k. sym (ap changes (many-clock c k e)))
    (first-either (λ k. tov k || ocf_a k || ocf_b k || ocf_c k) icf _ _
    (first-either (λ k. tov k || ocf_a k || ocf_b k) ocf_c _ _
    (first-either (λ k. tov k || ocf_a k) ocf_b _ _
    (first-either tov ocf_a _ _
    (first-unset c.flags.tov (λ j. count_at c j == c.maximum) x fx) (first-unset c.flags.ocf_a (λ j. count_at c j == c.compare_a) r fr))
    (first-unset c.flags.ocf_b (at c c.compare_b) s fs)) (first-unset c.flags.ocf_c (at c c.compare_c) t ft)) (first-unset c.flags.icf (at c c.icr) i fi))

-- one of two events that comes
either_comes : (sooner : Bool) (v w : ℕ) → IsSome (if sooner then Some v else Some w)
either_comes true v w = refl
either_comes false v w = refl

some_first : (a b : Option ℕ) → IsSome a → IsSome (earlier_of a b)
some_first (Some v) None e = e
some_first (Some v) (Some w) e = either_comes (nat_lt v w) v w
some_first None b e = absurd (cc)

some_second : (a b : Option ℕ) → IsSome b → IsSome (earlier_of a b)
some_second None b e = e
some_second (Some v) (Some w) e = either_comes (nat_lt v w) v w
some_second (Some v) None e = absurd (cc)

-- the counter comes to its top, so a flag is set
comes_by : (icr : Option ℕ) (clears : Bool) (a max : ℕ) (x r s t i : Option ℕ)
    → (max ≤ top_of icr clears a max → IsSome x) → (a ≤ top_of icr clears a max → IsSome r)
    → (IfSome icr (λ v. v ≤ top_of icr clears a max) → is_some icr ≡ true → IsSome i)
    → IsSome (earlier_of (earlier_of (earlier_of (earlier_of x r) s) t) i)
comes_by (Some v) clears a max x r s t i f g h = some_second _ i (h (omega arith) refl)
comes_by None true a max x r s t i f g h = some_first _ i (some_first _ t (some_first _ s (some_second x r (g (omega arith)))))
comes_by None false a max x r s t i f g h = some_first _ i (some_first _ t (some_first _ s (some_first x r (f (omega arith)))))

pub comes : (c : TimerCounter) (x r s t i : Option ℕ) → (c.maximum ≤ top c → IsSome x) → (c.compare_a ≤ top c → IsSome r)
    → (IfSome c.icr (λ v. v ≤ top c) → is_some c.icr ≡ true → IsSome i) → IsSome (earlier_of (earlier_of (earlier_of (earlier_of x r) s) t) i)
comes c x r s t i f g h = comes_by c.icr c.clears_at_a c.compare_a c.maximum x r s t i f g h

-- at the maximum the next clock sets a flag, be it blocked or not
pub sets-last : (c : TimerCounter) → c.count ≡ c.maximum → sets (many clock 0 c) ≡ true
unfolding many
sets-last c e = let n = eq-eqb c.count c.maximum e in rw n refl

meets-blocked : (count : ℕ) (value : Option ℕ) → meets true count value ≡ false
meets-blocked count None = refl
meets-blocked count (Some v) = refl

-- below it a blocked clock sets none
pub sets-blocked : (c : TimerCounter) → c.match_blocked ≡ true → (c.count ≡ c.maximum → ⊥) → sets c ≡ false
sets-blocked c b e =
    let n : (c.count == c.maximum) ≡ false = ne_eqb c.count c.maximum e in
    let s = meets-blocked c.count c.compare_b in
    let t = meets-blocked c.count c.compare_c in
    let i = meets-blocked c.count c.icr in
    rw (n, b, s, t, i) refl

pub count_at-from : (c : TimerCounter) (t i r : ℕ) → t ≡ top c → r ≡ path c.maximum t c.count i → r ≡ count_at c i
unfolding count_at
count_at-from c t i r e h = h ∙ ap (λ v. path c.maximum v c.count i) e

-- ---- for the timers and the board above
many-cycles : (d t n : ℕ) (c : TimerCounter) → divider c ≡ d → (0 < d) ⊎ (d ≤ 0) → cycles counter_cycle t n c ≡ many clock (clocks_of d t n) c
many-cycles d t n c e (inl some) =
    let on = lt-ltb 0 d some in
    cycles-clocks divider clock keeps t n d c e some ∙ ap (λ k. many clock k c) (sym (ap (λ b. cond b ((t + n) / d - t / d) 0) on))
many-cycles d t n c e (inr none) =
    let zero_d : d ≡ 0 = omega arith in
    cycles-halted divider clock keeps t n c (e ∙ zero_d) ∙ (sym (many-zero clock c) ∙ ap (λ k. many clock (clocks_of k t n) c) (sym zero_d))

-- many cycles are so many clocks
pub cycles-many : (t n : ℕ) (c : TimerCounter) → cycles counter_cycle t n c ≡ many clock (clocks_of (divider c) t n) c
cycles-many t n c = many-cycles (divider c) t n c refl (cases_lt 0 (divider c))

pub cycles-none : (t n k : ℕ) (c : TimerCounter) → k ≡ clocks_of (divider c) t n → k ≡ 0 → cycles counter_cycle t n c ≡ c
cycles-none t n k c e none = cycles-many t n c ∙ (ap (λ i. many clock i c) (sym e ∙ none) ∙ many-zero clock c)

-- a clock that sets no flag leaves the flags alone
calm : (c : TimerCounter) → sets c ≡ false → (clock c).flags ≡ c.flags
unfolding clock
calm c e = flags_or-none c.flags (set_flags c) e

-- the flags stay until a cycle sets one
pub flags-until : (t n : ℕ) (c : TimerCounter) → ((i : ℕ) → i < n → sets_flag_at t c i ≡ false) → (cycles counter_cycle t n c).flags ≡ c.flags
flags-until t n c none = kept-until divider clock keeps (λ (u : TimerCounter). u.flags) sets calm t n c none

-- and so does one that sets only flags that are set
unchanged : (c : TimerCounter) → changes c ≡ false → (clock c).flags ≡ c.flags
unfolding clock
unchanged c e = flags_or-set c.flags (set_flags c) e

pub flags-unchanged : (t n : ℕ) (c : TimerCounter) → ((i : ℕ) → i < n → changes_flag_at t c i ≡ false) → (cycles counter_cycle t n c).flags ≡ c.flags
flags-unchanged t n c none = kept-until divider clock keeps (λ (u : TimerCounter). u.flags) changes unchanged t n c none

-- a cycle that sets no flag sets none that is not set
set-none : (on : Bool) (c : TimerCounter) → (on && sets c) ≡ false → (on && changes c) ≡ false
set-none true c e = without-none (set_flags c) c.flags e
set-none false c e = refl

pub changes-none : (t n : ℕ) (c : TimerCounter) → sets_flag_at t c n ≡ false → changes_flag_at t c n ≡ false
unfolding sets_at
changes-none t n c e = set-none (clocked (divider c) (t + n)) (cycles counter_cycle t n c) e

-- and counts on
never_both : (b : Bool) → (b && false) ≡ false
never_both true = refl
never_both false = refl

top-calm : (icr : Option ℕ) (clears free : Bool) (a max count : ℕ) → (count == max) ≡ false → meets free count (Some a) ≡ false → meets free count icr ≡ false
    → (not free && count == top_of icr clears a max) ≡ false
top-calm (Some v) clears free a max count e f g = g
top-calm None true free a max count e f g = f
top-calm None false free a max count e f g = ap (λ (b : Bool). not free && b) e ∙ never_both (not free)

count-calm : (c : TimerCounter) → sets c ≡ false → (clock c).count ≡ c.count + 1
unfolding clock
count-calm c e =
    let f = set_flags c in
    let icf = or_parts (f.tov || f.ocf_a || f.ocf_b || f.ocf_c) f.icf e in
    let ocf_c = or_parts (f.tov || f.ocf_a || f.ocf_b) f.ocf_c icf.0 in
    let ocf_b = or_parts (f.tov || f.ocf_a) f.ocf_b ocf_c.0 in
    let ocf_a = or_parts f.tov f.ocf_a ocf_b.0 in
    let over : (c.count == c.maximum) ≡ false = ocf_a.0 in
    let cleared : (not c.match_blocked && c.count == top c) ≡ false = top-calm c.icr c.clears_at_a c.match_blocked c.compare_a c.maximum c.count over ocf_a.1 icf.1 in
    rw (over, cleared) refl

counted-by : (t n d : ℕ) (c : TimerCounter) → divider c ≡ d → (0 < d) ⊎ (d ≤ 0) → ((i : ℕ) → i < n → sets_flag_at t c i ≡ false) → c.count + clocks_of d t n ≡ (cycles counter_cycle t n c).count
counted-by t n d c e (inl some) none =
    let on = lt-ltb 0 d some in
    ap (λ b. c.count + cond b ((t + n) / d - t / d) 0) on ∙ sym (counted-until divider clock keeps (λ (u : TimerCounter). u.count) sets count-calm t n d c e some none)
counted-by t n d c e (inr zero_or) none =
    let zero_d : d ≡ 0 = omega arith in
    let halted : (cycles counter_cycle t n c).count ≡ c.count = ap (λ (u : TimerCounter). u.count) (cycles-halted divider clock keeps t n c (e ∙ zero_d)) in
    let none_of : clocks_of d t n ≡ 0 = ap (λ k. clocks_of k t n) zero_d in
    omega (arith, halted, none_of)

-- while no cycle sets a flag, the count goes on by the clocks
pub counted : (t n k : ℕ) (c : TimerCounter) → k ≡ clocks_of (divider c) t n → ((i : ℕ) → i < n → sets_flag_at t c i ≡ false) → c.count + k ≡ (cycles counter_cycle t n c).count
counted t n k c e none = ap (λ j. c.count + j) e ∙ counted-by t n (divider c) c refl (cases_lt 0 (divider c)) none

-- and never past the maximum
step-within : (over top : Bool) (count max : ℕ) → count ≤ max → ((count == max) ≡ over) → cond over 0 (cond top 0 (count + 1)) ≤ max
step-within true top count max l e = omega arith
step-within false true count max l e = omega arith
step-within false false count max l e = let ne = eqb-false count max e in let less : count < max = omega (arith, l, ne) in omega (arith, less)

within-many : (k : ℕ) (c : TimerCounter) → c.count ≤ c.maximum → ((many clock k c).count ≤ c.maximum) × ((many clock k c).maximum ≡ c.maximum)
unfolding many clock
within-many zero c l = (l, refl)
within-many (suc k) c l =
    let u : TimerCounter = many clock k c in
    let before = within-many k c l in
    let low : u.count ≤ u.maximum = (let m = before.1 in let b = before.0 in omega (arith, m, b)) in
    let step = step-within (u.count == u.maximum) (not u.match_blocked && u.count == top u) u.count u.maximum low refl in
    (let m = before.1 in omega (arith, m, step), before.1)

pub within-cycles : (t n : ℕ) (c : TimerCounter) → c.count ≤ c.maximum → (cycles counter_cycle t n c).count ≤ c.maximum
within-cycles t n c l =
    let w = (within-many (clocks_of (divider c) t n) c l).0 in
    let same = ap (λ (u : TimerCounter). u.count) (cycles-many t n c) in
    omega (arith, w, same)

-- while no cycle sets a flag, a counter runs alike whatever flags it has
abbrev pub with_flags : TimerFlags → TimerCounter → TimerCounter
with_flags f c = record c { flags = f }

flags-clock : (f : TimerFlags) (c : TimerCounter) → sets c ≡ false → clock (with_flags f c) ≡ with_flags f (clock c)
unfolding clock
flags-clock f c e = ap (λ (g : TimerFlags). with_flags g (clock c)) (flags_or-none f (set_flags c) e)

pub flags-aside : (f : TimerFlags) (t n : ℕ) (c : TimerCounter) → ((i : ℕ) → i < n → sets_flag_at t c i ≡ false) → cycles counter_cycle t n (with_flags f c) ≡ with_flags f (cycles counter_cycle t n c)
flags-aside f t n c none = moved-until divider clock keeps (with_flags f) sets (λ u. refl) (flags-clock f) t n c none

pub sets-aside : (f : TimerFlags) (t n : ℕ) (c : TimerCounter) → ((i : ℕ) → i < n → sets_flag_at t c i ≡ false) → sets_flag_at t (with_flags f c) n ≡ sets_flag_at t c n
unfolding sets_at
sets-aside f t n c none = ap (λ (u : TimerCounter). clocked (divider c) (t + n) && sets u) (flags-aside f t n c none)

halted : (p : Prescaler) → divider_of p 0 ≡ 0
unfolding divider_of
halted Own = refl
halted Shared = refl

pub undivided : (p : Prescaler) (s : ℕ) → s ≡ 0 → divider_of p s ≡ 0
undivided p s e = ap (divider_of p) e ∙ halted p

-- and sets none
pub sets-stopped : (t n : ℕ) (c : TimerCounter) → c.select ≡ 0 → sets_flag_at t c n ≡ false
unfolding sets_at
sets-stopped t n c e = let d : divider c ≡ 0 = undivided c.prescaler c.select e in rw d refl

pub changes-stopped : (t n : ℕ) (c : TimerCounter) → c.select ≡ 0 → changes_flag_at t c n ≡ false
unfolding sets_at
changes-stopped t n c e = let d : divider c ≡ 0 = undivided c.prescaler c.select e in rw d refl

pub changes-halted : (t n : ℕ) (c : TimerCounter) → divider c ≡ 0 → changes_flag_at t c n ≡ false
unfolding sets_at
changes-halted t n c d = rw d refl

-- a halted counter stays as it is
pub cycles-stopped : (t n : ℕ) (c : TimerCounter) → c.select ≡ 0 → cycles counter_cycle t n c ≡ c
cycles-stopped t n c e = cycles-halted divider clock keeps t n c (undivided c.prescaler c.select e)
