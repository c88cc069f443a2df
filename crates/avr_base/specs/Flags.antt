-- The flags of SREG: a byte whose bit i is flag i (AVR Instruction Set Manual, "Status Register (SREG)").
use Rattle.std.specs.Prelude.{ℕ, ◌+◌, ◌*◌, ◌/◌, ◌%◌, ◌^◌, ◌==◌, Bool, if◌then◌else◌}

-- the numbers of the flags: carry, zero, negative, two's complement overflow, sign, half carry, the bit copy storage,
-- and the global interrupt enable
abbrev pub C : ℕ
C = 0

abbrev pub Z : ℕ
Z = 1

abbrev pub N : ℕ
N = 2

abbrev pub V : ℕ
V = 3

abbrev pub S : ℕ
S = 4

abbrev pub H : ℕ
H = 5

abbrev pub T : ℕ
T = 6

abbrev pub I : ℕ
I = 7

-- whether flag i of a flags byte is set
abbrev pub has_flag : ℕ → ℕ → Bool
has_flag s i = s / 2 ^ i % 2 == 1

-- the flags byte with flag i set or cleared: the flags above it, the flag, the flags below it
unfoldable pub with_flag : ℕ → ℕ → Bool → ℕ
with_flag s i on = s / 2 ^ (i + 1) * 2 ^ (i + 1) + (if on then 2 ^ i else 0) + s % 2 ^ i

-- whether bit i of any byte is set: bits are numbered as flags are
abbrev pub has_bit : ℕ → ℕ → Bool
has_bit byte i = has_flag byte i

-- the byte with bit i set or cleared
abbrev pub with_bit : ℕ → ℕ → Bool → ℕ
with_bit byte i on = with_flag byte i on
