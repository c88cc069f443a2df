-- The lowest line that is set.
use Rattle.std.proofs.Common.{◌≡◌, ℕ, zero, suc, ◌+◌, ◌-◌, ◌/◌, ◌^◌, ◌<◌, ◌≤◌, Bool, true, false, Some, None, refl, ap, ◌∙◌, arith, inl, inr}
use Rattle.std.specs.Prelude.{find}
use Rattle.std.specs.Int.{bit_at, trailing_zeros, w64}
use Rattle.std.specs.Int.Count.{trailing_of_zero}
use Rattle.std.specs.List.{range_with_len}
use Rattle.std.proofs.lemmas.Bool.{cases_lt, cases_order}
use Rattle.std.proofs.lemmas.Nat.Bits.{bit_at-suc, bit_at-trailing_zeros, bit_at-zero}
use Rattle.avr_base.specs.Lines.{line_set, lowest_line}

-- the first number of a range at which a test holds
find-first : (p : ℕ → Bool) (a n w : ℕ) → a ≤ w → w < a + n → p w ≡ true → ((i : ℕ) → a ≤ i → i < w → p i ≡ false) → find p (range_with_len a n) ≡ Some w
find-first p a zero w from to here before = absurd (omega arith)
find-first p a (suc n) w from to here before =
    elim (cases_order a w) [
      | inl same ↦ (let at : p a ≡ true = ap p same ∙ here in rw (at, same) refl)
      | inr (inl less) ↦ (let off = before a (omega arith) less in rw off (find-first p (a + 1) n w (omega arith) (omega arith) here (λ i l. before i (omega arith))))
      | inr (inr more) ↦ absurd (omega arith)
    ]

find-none : (p : ℕ → Bool) (a n : ℕ) → ((i : ℕ) → a ≤ i → i < a + n → p i ≡ false) → find p (range_with_len a n) ≡ None
find-none p a zero none = refl
find-none p a (suc n) none = let off = none a (omega arith) (omega arith) in rw off (find-none p (a + 1) n (λ i l m. none i (omega arith) (omega arith)))

-- line i + 1 is bit i of the lines without bit 0
bit-above : (bits i : ℕ) → 1 ≤ i → bit_at bits i ≡ bit_at (bits / 2) (i - 1)
bit-above bits i h = let e : i ≡ suc (i - 1) = omega arith in ap (bit_at bits) e ∙ bit_at-suc bits (i - 1)

-- as many lines from line 1 on are clear as there are zeros
pub clear-below : (bits k i : ℕ) → bits < 2 ^ 64 → k ≡ trailing_zeros w64 (bits / 2) → 1 ≤ i → i ≤ k → bit_at bits i ≡ 0
clear-below bits k i fits zeros from to =
    bit-above bits i from ∙ elim (cases_lt 0 (bits / 2)) [
      | inl some ↦ (bit_at-trailing_zeros w64 (bits / 2) some (omega arith)).2 (i - 1) (omega arith)
      | inr none ↦ (let e : bits / 2 ≡ 0 = omega arith in ap (λ m. bit_at m (i - 1)) e ∙ bit_at-zero (i - 1))
    ]

-- and the next is set
set-next : (bits k : ℕ) → bits < 2 ^ 64 → k ≡ trailing_zeros w64 (bits / 2) → k < 64 → bit_at bits (k + 1) ≡ 1
set-next bits k fits zeros small =
    elim (cases_lt 0 (bits / 2)) [
      | inl some ↦ (let at : k + 1 - 1 ≡ trailing_zeros w64 (bits / 2) = omega arith in
          bit-above bits (k + 1) (omega arith) ∙ (ap (bit_at (bits / 2)) at ∙ (bit_at-trailing_zeros w64 (bits / 2) some (omega arith)).1))
      | inr none ↦ (let e : bits / 2 ≡ 0 = omega arith in let all : k ≡ 64 = zeros ∙ (ap (trailing_zeros w64) e ∙ trailing_of_zero 64) in absurd (omega arith))
    ]

clear-test : (bits i : ℕ) → bit_at bits i ≡ 0 → line_set bits i ≡ false
clear-test bits i e = rw e refl

pub lowest-found : (bits k : ℕ) → bits < 2 ^ 64 → k ≡ trailing_zeros w64 (bits / 2) → k < 34 → lowest_line bits ≡ Some (k + 1)
unfolding lowest_line
lowest-found bits k fits zeros small =
    find-first (line_set bits) 1 34 (k + 1) (omega arith) (omega arith) (rw (set-next bits k fits zeros (omega arith)) refl)
    (λ i from below. clear-test bits i (clear-below bits k i fits zeros from (omega arith)))

pub lowest-none : (bits k : ℕ) → bits < 2 ^ 64 → k ≡ trailing_zeros w64 (bits / 2) → 34 ≤ k → lowest_line bits ≡ None
unfolding lowest_line
lowest-none bits k fits zeros many =
    find-none (line_set bits) 1 34 (λ i from below. clear-test bits i (clear-below bits k i fits zeros from (omega arith)))

-- line k + 1 is among 1 to 34, so not all of these are clear
pub not-clear : (bits k : ℕ) → bits < 2 ^ 64 → k ≡ trailing_zeros w64 (bits / 2) → k < 34 → ((n : ℕ) → 1 ≤ n → n ≤ 34 → bit_at bits n ≡ 0) → ⊥
not-clear bits k fits zeros small all =
    let off = all (k + 1) (omega arith) (omega arith) in
    let on = set-next bits k fits zeros (omega arith) in
    cc
