-- What the tests of a difference of bytes say of the bytes, and those of the difference of two words, byte by byte, say
-- of the words: whether it is below 0, whether it is 0, and its sign in two's complement, from bit 7 and from whether
-- it fits.
use Rattle.std.proofs.Common.{◌≡◌, ℕ, ◌+◌, ◌-◌, ◌%◌, ◌<◌, ◌==◌, ◌&&◌, nat_le, nat_lt, Bool, false, arith, pos, ◌-ℤ◌, int_lt}
use Rattle.std.proofs.lemmas.Bool.Decides.{nat_tests}
use Rattle.std.proofs.lemmas.Int.{ints}
use Rattle.arith_step.specs.Whole.{one_if, overflows, signed, xor}
use Rattle.instruction_laws.specs.Branches.{word}

-- bit 7 and the overflow of a - b - borrow
abbrev pub sign : ℕ → ℕ → Bool → Bool
sign a b borrow =
    xor (nat_le 128 ((a + 256 - (b + one_if borrow)) % 256)) (overflows 128 (signed 128 a -ℤ signed 128 b -ℤ pos (one_if borrow)))

abbrev pub is_zero : ℕ → ℕ → Bool → Bool
is_zero a b borrow = (a + 256 - (b + one_if borrow)) % 256 == 0

pub byte_lower : (a b : ℕ) → nat_lt a (b + one_if false) ≡ nat_lt a b
byte_lower a b = grind (arith, nat_tests)

pub byte_equal : (a b : ℕ) → a < 256 → b < 256 → is_zero a b false ≡ a == b
byte_equal a b f g = grind (arith, nat_tests)

pub byte_less : (a b : ℕ) → a < 256 → b < 256 → sign a b false ≡ int_lt (signed 128 a) (signed 128 b)
byte_less a b f g = grind (arith, ints, nat_tests)

module _ (al ah bl bh : ℕ) (f : al < 256) (g : bl < 256) (h : ah < 256) (k : bh < 256) where
  pub word_lower : nat_lt ah (bh + one_if (nat_lt al bl)) ≡ nat_lt (word al ah) (word bl bh)
  word_lower = grind (arith, nat_tests)

  pub word_equal : (is_zero al bl false && is_zero ah bh (nat_lt al bl)) ≡ word al ah == word bl bh
  word_equal = grind (arith, nat_tests)

  pub word_less : sign ah bh (nat_lt al bl) ≡ int_lt (signed 32768 (word al ah)) (signed 32768 (word bl bh))
  word_less = grind (arith, ints, nat_tests)
