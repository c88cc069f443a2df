-- Counting the numbers of a range that pass a test.
use Rattle.std.proofs.Common.{◌≡◌, ℕ, zero, suc, ◌+◌, ◌-◌, ◌<◌, ◌≤◌, Bool, true, false, ◌&&◌, not, cond, max, arith, refl, sym, ap, ◌∙◌}
use Rattle.std.proofs.Math.Dec.{leb, ltb, eqb}
use Rattle.std.specs.List.{count_by, range_with_len}
use Rattle.std.proofs.lemmas.Bool.Decides.{nat_tests}
use Rattle.std.proofs.lemmas.List.Sums.{count_by-le-length, sum_by-cons}
use Rattle.std.proofs.lemmas.List.FromFn.{length-range_with_len}

-- one for a test that passes
abbrev pub bit : Bool → ℕ
bit b = cond b 1 0

counted : (p : ℕ → Bool) (a n : ℕ) → count_by p (range_with_len a (suc n)) ≡ bit (p a) + count_by p (range_with_len (a + 1) n)
counted p a n = sum_by-cons (λ c. bit (p c)) a (range_with_len (a + 1) n)

pub count-add : (p q r : ℕ → Bool) (a n : ℕ) → ((c : ℕ) → a ≤ c → c < a + n → bit (p c) ≡ bit (q c) + bit (r c)) → count_by p (range_with_len a n) ≡ count_by q (range_with_len a n) + count_by r (range_with_len a n)
count-add p q r a zero h = refl
count-add p q r a (suc n) h =
    let here : bit (p a) ≡ bit (q a) + bit (r a) = h a (omega arith) (omega arith) in
    let rest : count_by p (range_with_len (a + 1) n) ≡ count_by q (range_with_len (a + 1) n) + count_by r (range_with_len (a + 1) n) =
    count-add p q r (a + 1) n (λ c low high. h c (omega arith) (omega arith)) in
    omega (arith, counted p a n, counted q a n, counted r a n)

pub count-bits : (p q : ℕ → Bool) (a n : ℕ) → ((c : ℕ) → a ≤ c → c < a + n → bit (p c) ≡ bit (q c)) → count_by p (range_with_len a n) ≡ count_by q (range_with_len a n)
count-bits p q a zero h = refl
count-bits p q a (suc n) h =
    let here : bit (p a) ≡ bit (q a) = h a (omega arith) (omega arith) in
    let rest : count_by p (range_with_len (a + 1) n) ≡ count_by q (range_with_len (a + 1) n) =
    count-bits p q (a + 1) n (λ c low high. h c (omega arith) (omega arith)) in
    omega (arith, counted p a n, counted q a n)

pub count-same : (p q : ℕ → Bool) (a n : ℕ) → ((c : ℕ) → a ≤ c → c < a + n → p c ≡ q c) → count_by p (range_with_len a n) ≡ count_by q (range_with_len a n)
count-same p q a n h = count-bits p q a n (λ c low high. ap bit (h c low high))

pub count-none : (p : ℕ → Bool) (a n : ℕ) → ((c : ℕ) → a ≤ c → c < a + n → p c ≡ false) → count_by p (range_with_len a n) ≡ 0
count-none p a zero h = refl
count-none p a (suc n) h =
    let here : bit (p a) ≡ 0 = ap bit (h a (omega arith) (omega arith)) in
    let rest : count_by p (range_with_len (a + 1) n) ≡ 0 = count-none p (a + 1) n (λ c low high. h c (omega arith) (omega arith)) in
    omega (arith, counted p a n)

-- whether c lies from low on, below high
abbrev pub between : ℕ → ℕ → ℕ → Bool
between low high c = leb low c && ltb c high

bit-between : (low high a n : ℕ) → high ≤ a + suc n → bit (between low high a) + (high - max low (a + 1)) ≡ high - max low a
bit-between low high a n h = grind (arith, nat_tests)

pub count-between : (low high a n : ℕ) → high ≤ a + n → count_by (between low high) (range_with_len a n) ≡ high - max low a
count-between low high a zero h = omega arith
count-between low high a (suc n) h =
    let rest : count_by (between low high) (range_with_len (a + 1) n) ≡ high - max low (a + 1) = count-between low high (a + 1) n (omega arith) in
    omega (arith, counted (between low high) a n, bit-between low high a n h)

bit-equal : (k a n : ℕ) → bit (eqb k a) + bit (between (a + 1) (a + 1 + n) k) ≡ bit (between a (a + suc n) k)
bit-equal k a n = grind (arith, nat_tests)

pub count-equal : (k a n : ℕ) → count_by (λ c. eqb k c) (range_with_len a n) ≡ bit (between a (a + n) k)
count-equal k a zero = grind (arith, nat_tests)
count-equal k a (suc n) = omega (arith, counted (λ c. eqb k c) a n, count-equal k (a + 1) n, bit-equal k a n)

-- ---- ranges in two parts, and tests that all numbers pass

pub count-split : (p : ℕ → Bool) (a m n : ℕ) → count_by p (range_with_len a (m + n)) ≡ count_by p (range_with_len a m) + count_by p (range_with_len (a + m) n)
count-split p a zero n =
    let none : count_by p (range_with_len a 0) ≡ 0 = refl in
    let all : 0 + n ≡ n = omega arith in
    let first : a + 0 ≡ a = omega arith in
    let left : count_by p (range_with_len a (0 + n)) ≡ count_by p (range_with_len a n) = ap (λ (k : ℕ). count_by p (range_with_len a k)) all in
    let right : count_by p (range_with_len (a + 0) n) ≡ count_by p (range_with_len a n) = ap (λ (k : ℕ). count_by p (range_with_len k n)) first in
    omega (arith, none, left, right)
count-split p a (suc m) n =
    let all : suc m + n ≡ suc (m + n) = omega arith in
    let first : a + 1 + m ≡ a + suc m = omega arith in
    let left : count_by p (range_with_len a (suc m + n)) ≡ count_by p (range_with_len a (suc (m + n))) = ap (λ (k : ℕ). count_by p (range_with_len a k)) all in
    let right : count_by p (range_with_len (a + 1 + m) n) ≡ count_by p (range_with_len (a + suc m) n) = ap (λ (k : ℕ). count_by p (range_with_len k n)) first in
    omega (arith, left, right, counted p a (m + n), counted p a m, count-split p (a + 1) m n)

pub count-all : (p : ℕ → Bool) (a n : ℕ) → ((c : ℕ) → p c ≡ true) → count_by p (range_with_len a n) ≡ n
count-all p a zero h = refl
count-all p a (suc n) h =
    let here : bit (p a) ≡ 1 = ap bit (h a) in
    omega (arith, here, counted p a n, count-all p (a + 1) n h)

not_bit : (b : Bool) → 1 ≡ bit (not b) + bit b
not_bit true = refl
not_bit false = refl

-- all but one number
pub count-rest : (p : ℕ → Bool) (k a n : ℕ) → ((c : ℕ) → p c ≡ not (eqb k c)) → count_by p (range_with_len a n) + bit (between a (a + n) k) ≡ n
count-rest p k a n h =
    let both : count_by (λ c. true) (range_with_len a n) ≡ count_by p (range_with_len a n) + count_by (λ c. eqb k c) (range_with_len a n) =
    count-add (λ c. true) p (λ c. eqb k c) a n (λ c low high. not_bit (eqb k c) ∙ ap (λ (b : Bool). bit b + bit (eqb k c)) (sym (h c))) in
    omega (arith, both, count-all (λ c. true) a n (λ c. refl), count-equal k a n)

-- a count is no longer than its range
pub count-most : (p : ℕ → Bool) (a n : ℕ) → count_by p (range_with_len a n) ≤ n
count-most p a n = omega (arith, count_by-le-length p (range_with_len a n), length-range_with_len a n)
