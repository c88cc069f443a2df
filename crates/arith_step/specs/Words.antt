-- Results and flags of the instructions with a 16-bit result (AVR Instruction Set Manual: ADIW, SBIW, MUL, MULS,
-- MULSU, FMUL, FMULS, FMULSU), by whole numbers. Flags that a rule does not name stay.
use Rattle.std.specs.Prelude.{ℕ, ◌+◌, ◌-◌, ◌*◌, ◌%◌, ◌==◌, nat_lt, nat_le, Bool, true, false, if◌then◌else◌, ℤ, pos, ◌+ℤ◌, ◌-ℤ◌, ◌*ℤ◌, unsigned_abs}
use Rattle.std.specs.Int.{int_rem_euclid}
use Rattle.avr_base.specs.Flags.{C, Z, with_flag}
use Rattle.avr_base.specs.declared.sreg.Sreg.{Sreg}
use Rattle.arith_step.specs.declared.products.MulKind.{MulKind}
use Rattle.arith_step.specs.declared.products.MulKind.TheVariants.{Mul, Muls, Mulsu, Fmul, Fmuls, Fmulsu}
use Rattle.arith_step.specs.Whole.{signed, overflows, with_result}

-- a word plus and minus a constant: C where the sum does not fit and where the difference is below 0
unfoldable pub added_word : ℕ → ℕ → Sreg → ℕ × Sreg
added_word a k s =
    let r = (a + k) % 65536 in
    let v = overflows 32768 (signed 32768 a +ℤ pos k) in
    (r, record { bits = with_result 32768 r v (with_flag s.bits C (nat_le 65536 (a + k))) })

unfoldable pub subtracted_word : ℕ → ℕ → Sreg → ℕ × Sreg
subtracted_word a k s =
    let r = (a + 65536 - k) % 65536 in
    let v = overflows 32768 (signed 32768 a -ℤ pos k) in
    (r, record { bits = with_result 32768 r v (with_flag s.bits C (nat_lt a k)) })

-- the factors: both unsigned, both in two's complement, or the first alone
abbrev pub first_factor : MulKind → ℕ → ℤ
first_factor Mul a = pos a
first_factor Fmul a = pos a
first_factor Muls a = signed 128 a
first_factor Mulsu a = signed 128 a
first_factor Fmuls a = signed 128 a
first_factor Fmulsu a = signed 128 a

abbrev pub second_factor : MulKind → ℕ → ℤ
second_factor Muls b = signed 128 b
second_factor Fmuls b = signed 128 b
second_factor Mul b = pos b
second_factor Mulsu b = pos b
second_factor Fmul b = pos b
second_factor Fmulsu b = pos b

-- whether the product is of fractions with 7 bits behind the point, and so is shifted left by one
abbrev pub is_fractional : MulKind → Bool
is_fractional Mul = false
is_fractional Muls = false
is_fractional Mulsu = false
is_fractional Fmul = true
is_fractional Fmuls = true
is_fractional Fmulsu = true

-- the product modulo 65,536
unfoldable pub product : MulKind → ℕ → ℕ → ℕ
product kind a b = unsigned_abs (int_rem_euclid (first_factor kind a *ℤ second_factor kind b) (pos 65536))

-- C is bit 15 of the product, before a shift; Z says that the result is 0
unfoldable pub multiplied : MulKind → ℕ → ℕ → Sreg → ℕ × Sreg
multiplied kind a b s =
    let p = product kind a b in
    let r = (if is_fractional kind then 2 * p % 65536 else p) in
    (r, record { bits = with_flag (with_flag s.bits C (nat_le 32768 p)) Z (r == 0) })
