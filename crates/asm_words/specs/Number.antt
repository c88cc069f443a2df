-- Numbers and registers as they are written in an assembler's source.
use Rattle.std.specs.Prelude.{ℕ, ◌+◌, ◌-◌, ◌*◌, ◌==◌, ◌&&◌, ◌||◌, nat_le, nat_lt, not, min, Bool, if◌then◌else◌, List, [], ◌∷◌, length, Option, Some, None}

-- a digit of a base, 10 or 16, and the value of a digit in either case
abbrev pub is_digit : ℕ → ℕ → Bool
is_digit base c = (nat_le 48 c && nat_le c 57) || (base == 16 && ((nat_le 65 c && nat_le c 70) || (nat_le 97 c && nat_le c 102)))

abbrev pub digit : ℕ → ℕ
digit c = if nat_lt c 58 then c - 48 else if nat_lt c 71 then c - 55 else c - 87

-- the number that digits write behind those of a value; 65,536 stands for any number that is larger, since no operand
-- is so large
abbrev pub digits_from : ℕ → ℕ → List ℕ → Option ℕ
digits_from base value [] = Some value
digits_from base value (c ∷ cs) = if is_digit base c then digits_from base (min (base * value + digit c) 65536) cs else None

unfoldable pub digits_of : ℕ → List ℕ → Option ℕ
digits_of base text = digits_from base 0 text

-- behind 0x: one to four digits
abbrev pub hexadecimal_of : List ℕ → Option ℕ
hexadecimal_of text = if 0 == length text || nat_lt 4 (length text) then None else digits_of 16 text

abbrev pub decimal_of : List ℕ → Option ℕ
decimal_of text = if 0 == length text then None else digits_of 10 text

-- a number: decimal, or 0x, 48 and 120, and hexadecimal
unfoldable pub number : List ℕ → Option ℕ
number [] = None
number (a ∷ []) = decimal_of (a ∷ [])
number (a ∷ b ∷ rest) = if a == 48 && b == 120 then hexadecimal_of rest else decimal_of (a ∷ b ∷ rest)

-- a register: r, 114, and its number from 0 to 31 without leading zeros
unfoldable pub register : List ℕ → Option ℕ
register (r ∷ a ∷ []) = if not (r == 114) || not (is_digit 10 a) then None else Some (digit a)
register (r ∷ a ∷ b ∷ []) =
    if not (r == 114) || not (is_digit 10 a) || not (is_digit 10 b) then None
    else if nat_lt (10 * digit a + digit b) 10 || nat_lt 31 (10 * digit a + digit b) then None
    else Some (10 * digit a + digit b)
register _ = None
