-- Numbers by which a device is saved: lists of known length, flags, and bytes of bits.
use Rattle.std.proofs.Common.{◌≡◌, ◌≤◌, ◌+◌, ◌-◌, ℕ, zero, suc, Bool, true, false, not, refl, sym, ◌∙◌, ap, arith, List, [], ◌∷◌, ◌++◌, length, take, drop, slice_index, ◌==◌, nat_lt, is_none, cond, Some, None, inl, inr}
use Rattle.std.specs.List.{list_all, position, position_or_len}
use Rattle.std.proofs.lemmas.Bool.{cases_lt, false≢true, le-ltb, lt-ltb}
use Rattle.std.proofs.lemmas.List.{drop-drop, drop-take, take-take, take_all}
use Rattle.device_base.specs.Bits.{bit}
use Rattle.device_base.specs.Numbers.{part}

-- ---- a list by its places

abbrev pub from_places : (ℕ → ℕ) → ℕ → ℕ → List ℕ
from_places f at zero = []
from_places f at (suc k) = f at ∷ from_places f (at + 1) k

places-from : (f : ℕ → ℕ) (n : List ℕ) (at : ℕ) → ((i : ℕ) → slice_index n i ≡ f (at + i)) → from_places f at (length n) ≡ n
places-from f [] at h = refl
places-from f (x ∷ n) at h =
    let first : f at ≡ x = ap f (omega arith) ∙ sym (h 0) in
    let rest = places-from f n (at + 1) (λ i. h (suc i) ∙ ap f (omega arith)) in
    cc

-- a list of k numbers is what stands at its k places
pub by-places : (n : List ℕ) (k : ℕ) → length n ≡ k → from_places (slice_index n) 0 k ≡ n
by-places n k h = ap (from_places (slice_index n) 0) (sym h) ∙ places-from (slice_index n) n 0 (λ i. ap (slice_index n) (omega arith))

-- ---- a flag

pub flag-bit : (b : Bool) → (bit b 1 == 1) ≡ b
flag-bit true = refl
flag-bit false = refl

pub bit-most : (b : Bool) → bit b 1 ≤ 1
bit-most true = omega arith
bit-most false = omega arith

pub bit-flag : (n : ℕ) → n ≤ 1 → bit (n == 1) 1 ≡ n
bit-flag zero h = refl
bit-flag (suc zero) h = refl
bit-flag (suc (suc n)) h = absurd (omega arith)

-- ---- a list by its numbers

pub same-list : {x y : ℕ} {xs ys : List ℕ} → x ≡ y → xs ≡ ys → (x ∷ xs) ≡ (y ∷ ys)
same-list first rest = cc

-- ---- a test for each number

lt-step : (p l : ℕ) → nat_lt (1 + p) (suc l) ≡ nat_lt p l
lt-step p l =
    elim (cases_lt p l) [
      | inl below ↦ lt-ltb (1 + p) (suc l) (omega arith) ∙ sym (lt-ltb p l below)
      | inr top ↦ le-ltb (1 + p) (suc l) (omega arith) ∙ sym (le-ltb p l top)
    ]

fails-before : (fits : List Bool) → nat_lt (position_or_len not fits) (length fits) ≡ not (list_all (λ fit. fit) fits)
fails-before [] = refl
fails-before (true ∷ fits) = lt-step _ _ ∙ fails-before fits
fails-before (false ∷ fits) = lt-ltb _ _ (omega arith)

none-by : (b c : Bool) (x : ℕ) → b ≡ not c → is_none (cond b (Some x) None) ≡ c
none-by true true x h = absurd (false≢true (sym h))
none-by true false x h = refl
none-by false true x h = refl
none-by false false x h = absurd (false≢true h)

-- no test fails where all hold
pub none_outside : (fits : List Bool) → is_none (position not fits) ≡ list_all (λ fit. fit) fits
none_outside fits = none-by _ _ (position_or_len not fits) (fails-before fits)

-- ---- a part of a part, and a list into which parts were put

-- what stands at some of the places of a part stands at places of the whole
pub part-part : (n : List ℕ) (from m at count : ℕ) → at + count ≤ m → part at count (part from m n) ≡ part (from + at) count n
part-part n from m at count fits =
    let xs = drop from n in
    let whole : m ≡ at + (m - at) = omega arith in
    ap (λ k. part at count (take k xs)) whole ∙ ap (take count) (drop-take at (m - at) xs)
    ∙ take-take count (m - at) (drop at xs) (omega arith) ∙ ap (take count) (drop-drop at from n)

-- a part is put behind what stands at the front
pub then_put : {X : Type 0} (i j : ℕ) (front part n1 n2 : List X) → take i n1 ≡ front → take j n2 ≡ take i n1 ++ part → length n2 ≡ j → n2 ≡ front ++ part
then_put i j front part n1 n2 first second len = sym (take_all j n2 (omega arith)) ∙ second ∙ ap (λ xs. xs ++ part) first
