-- A test of numbers that the checker computes over a whole range holds at each number of the range.
use Rattle.std.proofs.Common.{◌≡◌, ℕ, zero, suc, ◌+◌, ◌<◌, ◌≤◌, Bool, true, false, refl, arith, inl, inr}
use Rattle.std.proofs.lemmas.Bool.{false≢true, cases_lt}

-- whether a test holds of the n numbers from `at` on
abbrev pub all_from : (ℕ → Bool) → ℕ → ℕ → Bool
all_from p at zero = true
all_from p at (suc n) = elim (p (at + n)) [ true ↦ all_from p at n | false ↦ false ]

both : (b c : Bool) → elim b [ true ↦ c | false ↦ false ] ≡ true → (b ≡ true) × (c ≡ true)
both true c h = (refl, h)
both false c h = absurd (false≢true h)

-- so the test holds at each of them
pub all_from-at : (p : ℕ → Bool) (at n w : ℕ) → all_from p at n ≡ true → at ≤ w → w < at + n → p w ≡ true
all_from-at p at zero w h low high = absurd (omega arith)
all_from-at p at (suc n) w h low high =
    let parts = both (p (at + n)) (all_from p at n) h in
    elim (cases_lt w (at + n)) [
      | inl below ↦ all_from-at p at n w parts.1 low below
      | inr top ↦
          let e : w ≡ at + n = omega arith in
          rw e parts.0
    ]
