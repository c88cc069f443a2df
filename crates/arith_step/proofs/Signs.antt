-- The flags of a result from a table, and put into a flags byte at once: tests over all bytes and flags.
use Rattle.std.proofs.Common.{◌≡◌, ℕ, ◌+◌, ◌%◌, ◌<◌, ◌==◌, nat_le, Bool, true, false, ◌&&◌, refl, bit_and, bit_or, bit_xor, arith, get_or, ◌-◌, pos, ◌+ℤ◌, ◌-ℤ◌}
use Rattle.std.proofs.lemmas.Bool.Decides.{nat_tests}
use Rattle.std.proofs.lemmas.Int.{ints}
use Rattle.std.proofs.lemmas.Bool.{eqb-true}
use Rattle.avr_base.specs.Flags.{with_flag}
use Rattle.avr_base.proofs.Computed.{all_from, all_from-at}
use Rattle.arith_step.specs.Whole.{one_if, overflows, signed, signs_of, with_sign, xor}
use Rattle.arith_step.specs.declared.flags.TheConstants.{FLAGS}

-- ---- the table
abbrev listed : ℕ → Bool
listed w = get_or FLAGS w 0 == signs_of (nat_le 128 (w % 256)) (w % 256 == 0) false

all_listed : all_from listed 0 512 ≡ true
all_listed = refl

pub sign_is : (w : ℕ) → w < 512 → get_or FLAGS w 0 ≡ signs_of (nat_le 128 (w % 256)) (w % 256 == 0) false
sign_is w h = eqb-true _ _ (all_from-at listed 0 512 w all_listed (omega arith) (omega arith))

pub turned : (n z : Bool) → bit_xor (signs_of n z false) 24 ≡ signs_of n z true
turned true true = refl
turned true false = refl
turned false true = refl
turned false false = refl

-- ---- overflow by signs
-- of a sum with the low byte r: its sign is neither that of a nor that of b
abbrev pub sum_overflows : ℕ → ℕ → ℕ → Bool
sum_overflows a b r = xor (nat_le 128 a) (nat_le 128 r) && xor (nat_le 128 b) (nat_le 128 r)

-- of a difference a - b with the low byte r: a and b differ in sign, and r is not of that of a
abbrev pub difference_overflows : ℕ → ℕ → ℕ → Bool
difference_overflows a b r = xor (nat_le 128 a) (nat_le 128 b) && xor (nat_le 128 a) (nat_le 128 r)

pub sum_by_signs : (a b : ℕ) (carry : Bool) → a < 256 → b < 256 → sum_overflows a b ((a + b + one_if carry) % 256) ≡ overflows 128 (signed 128 a +ℤ signed 128 b +ℤ pos (one_if carry))
sum_by_signs a b true f g = grind (arith, ints, nat_tests)
sum_by_signs a b false f g = grind (arith, ints, nat_tests)

pub difference_by_signs : (a b : ℕ) (borrow : Bool) → a < 256 → b < 256 → difference_overflows a b ((a + 256 - (b + one_if borrow)) % 256) ≡ overflows 128 (signed 128 a -ℤ signed 128 b -ℤ pos (one_if borrow))
difference_by_signs a b true f g = grind (arith, ints, nat_tests)
difference_by_signs a b false f g = grind (arith, ints, nat_tests)

pub increment_by_signs : (a : ℕ) → a < 256 → ((a + 1) % 256 == 128) ≡ overflows 128 (signed 128 a +ℤ pos 1)
increment_by_signs a f = grind (arith, ints, nat_tests)

pub decrement_by_signs : (a : ℕ) → a < 256 → ((a + 255) % 256 == 127) ≡ overflows 128 (signed 128 a -ℤ pos 1)
decrement_by_signs a f = grind (arith, ints, nat_tests)

-- ---- the flags of a byte but for these four, and these four
abbrev fits : Bool → Bool → Bool → ℕ → Bool
fits n z v s = bit_or (bit_and s 225) (signs_of n z v) == with_sign n z v s

fit : (n z v : Bool) → all_from (fits n z v) 0 256 ≡ true
unfolding with_sign with_flag
fit true true true = refl
fit true true false = refl
fit true false true = refl
fit true false false = refl
fit false true true = refl
fit false true false = refl
fit false false true = refl
fit false false false = refl

pub put_at_once : (n z v : Bool) (s : ℕ) → s < 256 → bit_or (bit_and s 225) (signs_of n z v) ≡ with_sign n z v s
put_at_once n z v s h = eqb-true _ _ (all_from-at (fits n z v) 0 256 s (fit n z v) (omega arith) (omega arith))
