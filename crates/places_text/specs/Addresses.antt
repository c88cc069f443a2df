-- How addresses are spelled, and which bytes of the data space can be watched.
use Rattle.std.specs.Prelude.{ℕ, ◌+◌, ◌-◌, ◌*◌, ◌==◌, ◌&&◌, ◌||◌, nat_le, nat_lt, not, Bool, true, if◌then◌else◌, List, [], ◌∷◌, Option, Some, None}
use Rattle.board_io.specs.Kept.{kept_bits}
use Rattle.board_io.specs.Table.{rule_of}
use Rattle.data_space.specs.declared.regions.TheConstants.{SRAM_START, SRAM_LAST}

-- a stretch of addresses, from one to another
abbrev pub is_within : ℕ → ℕ × ℕ → Bool
is_within at stretch = nat_le stretch.0 at && nat_le at stretch.1

-- whether the board keeps the byte at this data address, and it can be another than 0
abbrev pub is_kept : ℕ → Bool
is_kept at = not (kept_bits (rule_of at) == 0)

-- whether the byte at a data address is the core's: a general register, SP or SREG
abbrev pub is_core : ℕ → Bool
is_core at = nat_lt at 0x20 || (nat_le 0x5D at && nat_le at 0x5F)

-- whether a byte that can be watched stands at a data address: a register, SP or SREG, one that the board keeps, or one
-- of the SRAM (ATmega128 datasheet, "SRAM Data Memory")
unfoldable pub is_byte : ℕ → Bool
is_byte at =
    if nat_le SRAM_START at then nat_le at SRAM_LAST
    else if is_core at then true
    else is_kept at

-- an upper-case hexadecimal digit
unfoldable pub digit_of : ℕ → Option ℕ
digit_of c =
    if nat_le 48 c && nat_le c 57 then Some (c - 48)
    else if nat_le 65 c && nat_le c 70 then Some (c - 65 + 10)
    else None

abbrev pub behind_digit : Option ℕ → Option ℕ → Option ℕ
behind_digit (Some n) (Some d) = Some (n * 16 + d)
behind_digit (Some n) None = None
behind_digit None d = None

-- four of them
unfoldable pub address_of : List ℕ → Option ℕ
address_of (a ∷ b ∷ c ∷ d ∷ []) = behind_digit (behind_digit (behind_digit (digit_of a) (digit_of b)) (digit_of c)) (digit_of d)
address_of _ = None
