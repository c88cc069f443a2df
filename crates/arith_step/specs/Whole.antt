-- Whole numbers behind the flags (AVR Instruction Set Manual, "Status Register (SREG)"): the number that a byte or a
-- word is in two's complement, the range of such numbers, and the flags N, Z, V and S of a result.
use Rattle.std.specs.Prelude.{ℕ, ◌+◌, ◌*◌, ◌-◌, ◌==◌, nat_lt, nat_le, int_lt, not, ◌||◌, Bool, if◌then◌else◌, ℤ, pos, ◌-ℤ◌}
use Rattle.avr_base.specs.Flags.{C, Z, N, V, S, H, with_flag}

abbrev pub one_if : Bool → ℕ
one_if b = if b then 1 else 0

abbrev pub xor : Bool → Bool → Bool
xor a b = if a then not b else b

-- a number below 2 * half in two's complement: half is 128 for a byte and 32,768 for a word
abbrev pub signed : ℕ → ℕ → ℤ
signed half n = if nat_lt n half then pos n else pos n -ℤ pos (2 * half)

-- whether a whole number is outside -half to half - 1, so that no two's complement number is equal to it
abbrev pub overflows : ℕ → ℤ → Bool
overflows half z = int_lt z (pos 0 -ℤ pos half) || int_lt (pos (half - 1)) z

-- N, Z and V in a flags byte, and S, which is N xor V
unfoldable pub with_sign : Bool → Bool → Bool → ℕ → ℕ
with_sign n z v s = with_flag (with_flag (with_flag (with_flag s Z z) N n) V v) S (xor n v)

-- these four alone, each at its place
abbrev pub signs_of : Bool → Bool → Bool → ℕ
signs_of n z v = (if z then 2 else 0) + (if n then 4 else 0) + (if v then 8 else 0) + (if xor n v then 16 else 0)

-- these four of a result below 2 * half: N is its top bit, Z says that it is 0
abbrev pub with_result : ℕ → ℕ → Bool → ℕ → ℕ
with_result half r v s = with_sign (nat_le half r) (r == 0) v s

-- C and H in a flags byte
unfoldable pub with_carries : Bool → Bool → ℕ → ℕ
with_carries c h s = with_flag (with_flag s C c) H h
