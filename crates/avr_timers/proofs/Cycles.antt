-- Many clocks and many cycles of what has a prescaler, and the cycle of the first clock that sets a flag.
use Rattle.std.proofs.Common.{◌≡◌, ℕ, zero, suc, ◌+◌, ◌-◌, ◌*◌, ◌/◌, ◌%◌, ◌<◌, ◌≤◌, ◌==◌, nat_lt, add-one, add-zero, cond, Bool, true, false, ◌&&◌, Some, refl, sym, ap, ◌∙◌, arith}
use Rattle.std.proofs.lemmas.Nat.{div-mul-add, mod-mul-add, div_below, le-div}
use Rattle.std.proofs.lemmas.Bool.{lt-ltb, cond_both}
use Rattle.std.proofs.lemmas.Bool.Decides.{nat_tests}
use Rattle.std.proofs.Math.Nat.{div-mul-le_self}
use Rattle.avr_timers.specs.Clock.{clocked, cycles, many, prescaled, sets_at}
use Rattle.avr_timers.specs.First.{First}
use Rattle.avr_timers.proofs.First.{first-shift, first-same}
use Rattle.avr_timers.proofs.Path.{Turns, Goes, next}

-- ---- many steps
many-first : {A : Type 0} (f : A → A) (k : ℕ) (x : A) → many f (suc k) x ≡ many f k (f x)
unfolding many
many-first f zero x = refl
many-first f (suc k) x = ap f (many-first f k x)

pub many-zero : {A : Type 0} (f : A → A) (x : A) → many f 0 x ≡ x
unfolding many
many-zero f x = refl

-- one step, and then the others
pub many-after : {A : Type 0} (f : A → A) (n : ℕ) (x : A) → 0 < n → many f (n - 1) (f x) ≡ many f n x
many-after f n x positive = let e : suc (n - 1) ≡ n = omega arith in sym (many-first f (n - 1) x) ∙ ap (λ k. many f k x) e

many-more : {A : Type 0} (f : A → A) (j k : ℕ) (x : A) → k ≡ j + 1 → f (many f j x) ≡ many f k x
unfolding many
many-more f j k x e = ap (λ i. many f i x) (sym (add-one j) ∙ sym e)

-- the first clock that sets a flag, where the very first sets none and u follows it
pub first-next : {A : Type 0} (f : A → A) (sets : A → Bool) (x u : A) (w : ℕ) → sets x ≡ false → u ≡ f x → First (λ k. sets (many f k u)) (Some w) → First (λ k. sets (many f k x)) (Some (w + 1))
first-next f sets x u w none is first =
    first-shift (λ k. sets (many f k x)) w (ap sets (many-zero f x) ∙ none)
    (first-same (λ k. sets (many f k u)) (λ k. sets (many f (suc k) x)) (Some w) (λ k. ap sets (ap (many f k) is ∙ sym (many-first f k x))) first)

-- and where no other follows
pub never-next : {A : Type 0} (f : A → A) (sets : A → Bool) (x u : A) → sets x ≡ false → u ≡ f x → ((k : ℕ) → sets (many f k u) ≡ false) → (k : ℕ) → sets (many f k x) ≡ false
never-next f sets x u none is never zero = ap sets (many-zero f x) ∙ none
never-next f sets x u none is never (suc k) = ap sets (many-first f k x ∙ ap (many f k) (sym is)) ∙ never k

-- ---- many cycles
-- n cycles, and then m more
pub cycles-add : {A : Type 0} (step : ℕ → A → A) (t n m : ℕ) (x : A) → cycles step t (n + m) x ≡ cycles step (t + n) m (cycles step t n x)
unfolding cycles
cycles-add step t n zero x = rw add-zero refl
cycles-add step t n (suc m) x =
    let e : n + suc m ≡ suc (n + m) = omega arith in
    let k : t + (n + m) ≡ t + n + m = omega arith in
    rw (e, k) (ap (step (t + n + m)) (cycles-add step t n m x))

quotient-later : (d t n : ℕ) → 0 < d → t / d ≤ (t + n) / d
quotient-later d t n positive = le-div (t / d) (t + n) d positive (omega (arith, div-mul-le_self t d))

and_off : (b : Bool) → (b && false) ≡ false
and_off true = refl
and_off false = refl

and_none : (a b : Bool) → ((a && false) && b) ≡ false
and_none true b = refl
and_none false b = refl

-- of anything with a prescaler, whose divider no clock changes
module _ {A : Type 0} (divider : A → ℕ) (clock : A → A) (keeps : (x : A) → divider (clock x) ≡ divider x) where
  divider-many : (k : ℕ) (x : A) → divider (many clock k x) ≡ divider x
  unfolding many
  divider-many zero x = refl
  divider-many (suc k) x = keeps (many clock k x) ∙ divider-many k x

  cycle-clocked : (t d : ℕ) (x : A) → divider x ≡ d → 0 < d → (t + 1) % d ≡ 0 → prescaled divider clock t x ≡ clock x
  cycle-clocked t d x e positive rem = let l = lt-ltb 0 d positive in rw (e, l, rem) refl

  cycle-idle : (t d r : ℕ) (x : A) → divider x ≡ d → 0 < d → (t + 1) % d ≡ r → 0 < r → prescaled divider clock t x ≡ x
  cycle-idle t d r x e positive rem some = let l = lt-ltb 0 d positive in let n : (r == 0) ≡ false = grind (arith, nat_tests) in rw (e, l, rem, n) refl

  -- n cycles are so many clocks
  pub cycles-clocks : (t n d : ℕ) (x : A) → divider x ≡ d → 0 < d → cycles (prescaled divider clock) t n x ≡ many clock ((t + n) / d - t / d) x
  unfolding cycles
  cycles-clocks t zero d x e positive = let none : (t + 0) / d - t / d ≡ 0 = grind arith in rw none (sym (many-zero clock x))
  cycles-clocks t (suc n) d x e positive =
      let later = quotient-later d t n positive in
      let so_far = many clock ((t + n) / d - t / d) x in
      let same = divider-many ((t + n) / d - t / d) x ∙ e in
      let at : t + suc n ≡ t + n + 1 = omega arith in
      ap (prescaled divider clock (t + n)) (cycles-clocks t n d x e positive) ∙ elim (next d (t + n) positive) [
        | Turns rem quo last ↦ cycle-clocked (t + n) d so_far same positive rem ∙ many-more clock ((t + n) / d - t / d) ((t + suc n) / d - t / d) x (rw at (omega arith))
        | Goes rem quo below ↦ cycle-idle (t + n) d _ so_far same positive rem (omega arith) ∙ ap (λ k. many clock (k - t / d) x) (sym quo ∙ ap (λ m. m / d) (sym at))
      ]

  -- a halted one stays as it is
  pub cycles-halted : (t n : ℕ) (x : A) → divider x ≡ 0 → cycles (prescaled divider clock) t n x ≡ x
  unfolding cycles
  cycles-halted t zero x e = refl
  cycles-halted t (suc n) x e = ap (prescaled divider clock (t + n)) (cycles-halted t n x e) ∙ rw e refl

  -- ---- the cycle of the first clock that sets a flag
  sets_at-off : (sets : A → Bool) (t n d r : ℕ) (x : A) → divider x ≡ d → (t + n + 1) % d ≡ r → 0 < r → sets_at divider clock sets t x n ≡ false
  unfolding sets_at
  sets_at-off sets t n d r x e rem some = let l : (r == 0) ≡ false = grind (arith, nat_tests) in rw (e, rem, l) (and_none (nat_lt 0 d) (sets (cycles (prescaled divider clock) t n x)))

  sets_at-on : (sets : A → Bool) (t n d k : ℕ) (x : A) → divider x ≡ d → 0 < d → (t + n + 1) % d ≡ 0 → (t + n) / d - t / d ≡ k → sets_at divider clock sets t x n ≡ sets (many clock k x)
  unfolding sets_at
  sets_at-on sets t n d k x e positive rem quo = let l = lt-ltb 0 d positive in rw (e, l, rem) (ap sets (cycles-clocks t n d x e positive ∙ ap (λ i. many clock i x) quo))

  -- no cycle before the one of clock w sets a flag, where no clock before w does
  first-cycle-before : (sets : A → Bool) (t d w e i : ℕ) (x : A) → divider x ≡ d → 0 < d → e + 1 ≡ (t / d + w + 1) * d → t ≤ e
      → ((k : ℕ) → k < w → sets (many clock k x) ≡ false) → i < e - t → sets_at divider clock sets t x i ≡ false
  first-cycle-before sets t d w e i x is positive at later none l =
      let m = quotient-later d t i positive in
      elim (next d (t + i) positive) [
        | Goes rem quo below ↦ sets_at-off sets t i d _ x is rem (omega arith)
        | Turns rem quo last ↦ (let low : (t + i + 1) / d < t / d + w + 1 = div_below (t + i + 1) d (t / d + w + 1) positive (omega arith) in
            sets_at-on sets t i d ((t + i) / d - t / d) x is positive rem refl ∙ none ((t + i) / d - t / d) (omega arith))
      ]

  -- and that one does where clock w does
  first-cycle-at : (sets : A → Bool) (t d w e : ℕ) (x : A) → divider x ≡ d → 0 < d → e + 1 ≡ (t / d + w + 1) * d → t ≤ e
      → sets (many clock w x) ≡ true → sets_at divider clock sets t x (e - t) ≡ true
  first-cycle-at sets t d w e x is positive at later sure =
      let whole : t + (e - t) + 1 ≡ (t / d + w + 1) * d + 0 = omega arith in
      let rem : (t + (e - t) + 1) % d ≡ 0 = ap (λ m. m % d) whole ∙ mod-mul-add (t / d + w + 1) d 0 positive in
      let quo : (t + (e - t) + 1) / d ≡ t / d + w + 1 = ap (λ m. m / d) whole ∙ div-mul-add (t / d + w + 1) d 0 positive in
      elim (next d (t + (e - t)) positive) [
        | Goes a b c ↦ absurd (omega arith)
        | Turns a b c ↦ sets_at-on sets t (e - t) d w x is positive rem (omega arith) ∙ sure
      ]

  -- from the first clock that sets a flag to the first cycle that does
  pub first-cycle : (sets : A → Bool) (t d w e : ℕ) (x : A) → divider x ≡ d → 0 < d → e + 1 ≡ (t / d + w + 1) * d → t ≤ e
      → First (λ k. sets (many clock k x)) (Some w) → First (sets_at divider clock sets t x) (Some (e - t))
  first-cycle sets t d w e x is positive at later first =
      (first-cycle-at sets t d w e x is positive at later first.0, λ i l. first-cycle-before sets t d w e i x is positive at later first.1 l)

  -- where no clock sets a flag, no cycle does
  pub never-cycle : (sets : A → Bool) (t d n : ℕ) (x : A) → divider x ≡ d → 0 < d → ((k : ℕ) → sets (many clock k x) ≡ false) → sets_at divider clock sets t x n ≡ false
  unfolding sets_at
  never-cycle sets t d n x is positive never =
      ap (λ y. clocked (divider x) (t + n) && sets y) (cycles-clocks t n d x is positive)
      ∙ (ap (λ b. clocked (divider x) (t + n) && b) (never ((t + n) / d - t / d)) ∙ and_off (clocked (divider x) (t + n)))

  -- ---- what stays until then
  divider-cycles : (t n : ℕ) (x : A) → divider (cycles (prescaled divider clock) t n x) ≡ divider x
  unfolding cycles
  divider-cycles t zero x = refl
  divider-cycles t (suc n) x =
      let y = cycles (prescaled divider clock) t n x in
      cond_both (clocked (divider y) (t + n)) (clock y) y (λ z. divider z ≡ divider x) (λ e. keeps y ∙ divider-cycles t n x) (λ e. divider-cycles t n x)

  -- what a clock that sets no flag leaves alone stays until a cycle sets one
  pub kept-until : {V : Type 0} (view : A → V) (sets : A → Bool) (calm : (x : A) → sets x ≡ false → view (clock x) ≡ view x) (t n : ℕ) (x : A)
      → ((i : ℕ) → i < n → sets_at divider clock sets t x i ≡ false) → view (cycles (prescaled divider clock) t n x) ≡ view x
  unfolding cycles sets_at
  kept-until view sets calm t zero x none = refl
  kept-until view sets calm t (suc n) x none =
      let y = cycles (prescaled divider clock) t n x in
      let before = kept-until view sets calm t n x (λ i l. none i (omega arith)) in
      cond_both (clocked (divider y) (t + n)) (clock y) y (λ z. view z ≡ view x)
      (λ e. (let on : clocked (divider x) (t + n) ≡ true = ap (λ d. clocked d (t + n)) (sym (divider-cycles t n x)) ∙ e in
      calm y (sym (ap (λ b. b && sets y) on) ∙ none n (omega arith)) ∙ before))
      (λ e. before)

  -- what such a clock adds one to, counts the clocks until then
  pub counted-until : (view : A → ℕ) (sets : A → Bool) (calm : (x : A) → sets x ≡ false → view (clock x) ≡ view x + 1) (t n d : ℕ) (x : A) → divider x ≡ d → 0 < d
      → ((i : ℕ) → i < n → sets_at divider clock sets t x i ≡ false) → view (cycles (prescaled divider clock) t n x) ≡ view x + ((t + n) / d - t / d)
  unfolding cycles sets_at
  counted-until view sets calm t zero d x e positive none = let z : (t + 0) / d - t / d ≡ 0 = grind arith in omega (arith, z)
  counted-until view sets calm t (suc n) d x e positive none =
      let y = cycles (prescaled divider clock) t n x in
      let before = counted-until view sets calm t n d x e positive (λ i l. none i (omega arith)) in
      let later = quotient-later d t n positive in
      let same = divider-cycles t n x ∙ e in
      let at : t + suc n ≡ t + n + 1 = omega arith in
      elim (next d (t + n) positive) [
        | Turns rem quo last ↦ (let l = lt-ltb 0 d positive in
            let on : clocked (divider x) (t + n) ≡ true = rw (e, l, rem) refl in
            let one = calm y (sym (ap (λ b. b && sets y) on) ∙ none n (omega arith)) in
            let more : (t + suc n) / d ≡ (t + n) / d + 1 = ap (λ m. m / d) at ∙ quo in
            ap view (cycle-clocked (t + n) d y same positive rem) ∙ (one ∙ omega (arith, before, more, later)))
        | Goes rem quo below ↦ ap view (cycle-idle (t + n) d _ y same positive rem (omega arith)) ∙ (before ∙ ap (λ k. view x + (k - t / d)) (sym quo ∙ ap (λ m. m / d) (sym at)))
      ]

  -- what commutes with a clock that sets no flag commutes with cycles that set none
  moved-cycle : (f : A → A) (on : Bool) (y : A) → (on ≡ true → clock (f y) ≡ f (clock y)) → cond on (clock (f y)) (f y) ≡ f (cond on (clock y) y)
  moved-cycle f true y e = e refl
  moved-cycle f false y e = refl

  pub moved-until : (f : A → A) (sets : A → Bool) → ((x : A) → divider (f x) ≡ divider x) → ((x : A) → sets x ≡ false → clock (f x) ≡ f (clock x)) → (t n : ℕ) (x : A)
      → ((i : ℕ) → i < n → sets_at divider clock sets t x i ≡ false) → cycles (prescaled divider clock) t n (f x) ≡ f (cycles (prescaled divider clock) t n x)
  unfolding cycles sets_at
  moved-until f sets same calm t zero x none = refl
  moved-until f sets same calm t (suc n) x none =
      let y = cycles (prescaled divider clock) t n x in
      ap (prescaled divider clock (t + n)) (moved-until f sets same calm t n x (λ i l. none i (omega arith)))
      ∙ (ap (λ d. cond (clocked d (t + n)) (clock (f y)) (f y)) (same y)
      ∙ moved-cycle f (clocked (divider y) (t + n)) y
      (λ e. (let on : clocked (divider x) (t + n) ≡ true = ap (λ d. clocked d (t + n)) (sym (divider-cycles t n x)) ∙ e in
      calm y (sym (ap (λ b. b && sets y) on) ∙ none n (omega arith)))))
