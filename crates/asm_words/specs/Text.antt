-- The text of a line of an assembler's source.
use Rattle.std.specs.Prelude.{ℕ, zero, suc, ◌+◌, ◌-◌, ◌*◌, ◌==◌, ◌&&◌, ◌||◌, nat_le, nat_lt, not, Bool, false, if◌then◌else◌, List, [], ◌∷◌, length, take, drop, slice_index, position, Option, Some, None}
use Rattle.std.specs.Char.{is_ascii_digit, is_ascii_alphabetic}
use Rattle.std.specs.List.{list_all}

-- a space or a tab
abbrev pub is_blank : ℕ → Bool
is_blank c = c == 32 || c == 9

-- a byte that a line may have: a tab, a space or a visible ASCII character
abbrev pub is_printed : ℕ → Bool
is_printed c = c == 9 || (nat_le 32 c && nat_le c 126)

-- a letter or _, 95
abbrev pub is_letter : ℕ → Bool
is_letter c = is_ascii_alphabetic c || c == 95

abbrev pub is_word_byte : ℕ → Bool
is_word_byte c = is_letter c || is_ascii_digit c

-- a label: a letter or _, then letters, digits and _, at most 31 in all
unfoldable pub is_label : List ℕ → Bool
is_label [] = false
is_label (c ∷ cs) = is_letter c && nat_le (length (c ∷ cs)) 31 && list_all is_word_byte (c ∷ cs)

-- a line without one CR at its end
abbrev pub without_cr : List ℕ → List ℕ
without_cr text = if 0 == length text then text else if slice_index text (length text - 1) == 13 then take (length text - 1) text else text

-- the front of a text up to a place, or all of it
abbrev pub up_to : Option ℕ → List ℕ → List ℕ
up_to None text = text
up_to (Some i) text = take i text

-- a text from a place on, or nothing
abbrev pub from : Option ℕ → List ℕ → List ℕ
from None text = []
from (Some i) text = drop i text

-- a line without its comment, from the first ; on
unfoldable pub without_comment : List ℕ → List ℕ
without_comment text = up_to (position (λ c. c == 59) text) text

-- a text without the blanks before it
unfoldable pub trim_start : List ℕ → List ℕ
trim_start text = from (position (λ c. not (is_blank c)) text) text

-- the n first bytes of a text without the blanks behind them
abbrev pub trimmed : ℕ → List ℕ → List ℕ
trimmed zero text = []
trimmed (suc n) text = if is_blank (slice_index text n) then trimmed n text else take (suc n) text

-- a text without the blanks behind it
unfoldable pub trim_end : List ℕ → List ℕ
trim_end text = trimmed (length text) text

-- what a line has besides comment and blanks
abbrev pub body_of : List ℕ → List ℕ
body_of text = trim_end (trim_start (without_comment (without_cr text)))

-- a hexadecimal digit in upper case, and its value
abbrev pub is_upper_digit : ℕ → Bool
is_upper_digit c = is_ascii_digit c || (nat_le 65 c && nat_le c 70)

abbrev pub upper_digit : ℕ → ℕ
upper_digit c = if nat_lt c 58 then c - 48 else c - 65 + 10

-- the word address that a line names: four such digits with a space behind them
unfoldable pub address_of : List ℕ → Option ℕ
address_of (a ∷ b ∷ c ∷ d ∷ e ∷ rest) =
    if is_upper_digit a && is_upper_digit b && is_upper_digit c && is_upper_digit d && e == 32
    then Some (4096 * upper_digit a + 256 * upper_digit b + 16 * upper_digit c + upper_digit d)
    else None
address_of _ = None
