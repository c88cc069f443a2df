-- Results and flags of the instructions on bytes (AVR Instruction Set Manual: ADD, ADC, SUB, SBC, AND, COM, NEG, INC,
-- DEC, LSR, ROR, ASR). Carry, half carry and overflow are comparisons of whole-number sums and differences with a
-- range. Flags that a rule does not name stay.
use Rattle.std.specs.Prelude.{ℕ, ◌+◌, ◌-◌, ◌*◌, ◌/◌, ◌%◌, ◌==◌, nat_lt, nat_le, ◌&&◌, Bool, true, false, if◌then◌else◌, pos, ◌+ℤ◌, ◌-ℤ◌}
use Rattle.avr_base.specs.Flags.{C, Z, has_flag, with_flag}
use Rattle.avr_base.specs.declared.sreg.Sreg.{Sreg}
use Rattle.arith_step.specs.Whole.{one_if, xor, signed, overflows, with_sign, with_result, with_carries}

-- a + b + carry: C and H where the sum, and that of the low halves, does not fit, V where the signed sum does not
unfoldable pub added : ℕ → ℕ → Bool → Sreg → ℕ × Sreg
added a b carry s =
    let sum = a + b + one_if carry in
    let low = a % 16 + b % 16 + one_if carry in
    let v = overflows 128 (signed 128 a +ℤ signed 128 b +ℤ pos (one_if carry)) in
    (sum % 256, record { bits = with_result 128 (sum % 256) v (with_carries (nat_le 256 sum) (nat_le 16 low) s.bits) })

-- a - b - borrow: C and H where it, and that of the low halves, is below 0, V where the signed difference does not
-- fit. With Z kept, Z stays set only where it was set and the result is 0, as over the bytes of a longer number.
unfoldable pub subtracted : ℕ → ℕ → Bool → Bool → Sreg → ℕ × Sreg
subtracted a b borrow keep_z s =
    let r = (a + 256 - (b + one_if borrow)) % 256 in
    let v = overflows 128 (signed 128 a -ℤ signed 128 b -ℤ pos (one_if borrow)) in
    let c = nat_lt a (b + one_if borrow) in
    let h = nat_lt (a % 16) (b % 16 + one_if borrow) in
    let z = (if keep_z then has_flag s.bits Z && r == 0 else r == 0) in
    (r, record { bits = with_sign (nat_le 128 r) z v (with_carries c h s.bits) })

-- 0 - a
abbrev pub negated : ℕ → Sreg → ℕ × Sreg
negated a s = subtracted 0 a false false s

-- the flags of a bitwise result
unfoldable pub logical : ℕ → Sreg → Sreg
logical r s = record { bits = with_result 128 r false s.bits }

-- one's complement: 255 - a, C set
unfoldable pub complemented : ℕ → Sreg → ℕ × Sreg
complemented a s = (255 - a, record { bits = with_result 128 (255 - a) false (with_flag s.bits C true) })

-- a + 1 and a - 1, C and H left
unfoldable pub incremented : ℕ → Sreg → ℕ × Sreg
incremented a s =
    let r = (a + 1) % 256 in
    (r, record { bits = with_result 128 r (overflows 128 (signed 128 a +ℤ pos 1)) s.bits })

unfoldable pub decremented : ℕ → Sreg → ℕ × Sreg
decremented a s =
    let r = (a + 255) % 256 in
    (r, record { bits = with_result 128 r (overflows 128 (signed 128 a -ℤ pos 1)) s.bits })

-- a shift right by one with this bit 7: C is the bit shifted out, V is N xor C
unfoldable pub shifted : Bool → ℕ → Sreg → ℕ × Sreg
shifted top a s =
    let r = a / 2 + 128 * one_if top in
    let c = a % 2 == 1 in
    (r, record { bits = with_result 128 r (xor (nat_le 128 r) c) (with_flag s.bits C c) })
