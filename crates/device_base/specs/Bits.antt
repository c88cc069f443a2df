-- Bits of a register.
use Rattle.std.specs.Prelude.{ℕ, ◌==◌, if◌then◌else◌, Bool, not, bit_and}

-- whether a byte has a bit of a mask set
abbrev pub any_bit : ℕ → ℕ → Bool
any_bit byte mask = not (bit_and byte mask == 0)

-- a bit of a register where its flag is set
abbrev pub bit : Bool → ℕ → ℕ
bit flag mask = if flag then mask else 0
