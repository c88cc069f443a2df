-- The first byte that cannot be the one at its address, as a loop over the places finds it.
use Rattle.std.proofs.Common.{◌≡◌, ◌≤◌, ◌<◌, ◌+◌, ℕ, Bool, true, false, ◌∙◌, ap, arith, length, get_or, nat_lt, cond, None, Some}
use Rattle.std.specs.Prelude.{not}
use Rattle.std.specs.List.{position, position_or_len, range_with_len}
use Rattle.std.proofs.lemmas.Bool.{lt-ltb, le-ltb}
use Rattle.std.proofs.lemmas.List.FromFn.{get_or-range_with_len, length-range_with_len}
use Rattle.std.proofs.lemmas.List.Sums.{position_or_len_is}

-- the first place below n at which a test fails
module _ (test : ℕ → Bool) (n i : ℕ) (most : i ≤ n) (before : (k : ℕ) → k < i → test k ≡ true) where
  at : (k : ℕ) → k < n → get_or (range_with_len 0 n) k 0 ≡ k
  at k low = let e : 0 + k ≡ k = omega arith in get_or-range_with_len 0 n k 0 low ∙ e

  passed : (k : ℕ) → k < i → not (test (get_or (range_with_len 0 n) k 0)) ≡ false
  passed k low = ap (λ j. not (test j)) (at k (omega arith)) ∙ ap not (before k low)

  place : (i < n → test i ≡ false) → position_or_len (λ k. not (test k)) (range_with_len 0 n) ≡ i
  place here =
      position_or_len_is (λ k. not (test k)) (range_with_len 0 n) i 0 (omega (arith, length-range_with_len 0 n)) passed
      (λ low. ap (λ j. not (test j)) (at i (omega (arith, length-range_with_len 0 n))) ∙ ap not (here (omega (arith, length-range_with_len 0 n))))

pub first_failed : (test : ℕ → Bool) (n i : ℕ) → i < n → ((k : ℕ) → k < i → test k ≡ true) → test i ≡ false → position (λ k. not (test k)) (range_with_len 0 n) ≡ Some i
first_failed test n i low before here =
    let at = place test n i (omega arith) before (λ _. here) in
    let len = length-range_with_len 0 n in
    ap (λ p. cond (nat_lt p (length (range_with_len 0 n))) (Some p) None) at
    ∙ ap (λ b. cond b (Some i) None) (lt-ltb i (length (range_with_len 0 n)) (omega arith))

pub none_failed : (test : ℕ → Bool) (n : ℕ) → ((k : ℕ) → k < n → test k ≡ true) → position (λ k. not (test k)) (range_with_len 0 n) ≡ None
none_failed test n before =
    let at = place test n n (omega arith) before (λ low. absurd (omega arith)) in
    let len = length-range_with_len 0 n in
    ap (λ p. cond (nat_lt p (length (range_with_len 0 n))) (Some p) None) at
    ∙ ap (λ b. cond b (Some n) None) (le-ltb n (length (range_with_len 0 n)) (omega arith))
