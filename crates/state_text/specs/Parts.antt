-- Lines, their parts, and what stands in a part: a decimal number or the upper-case hexadecimal digits of bytes.
use Rattle.std.specs.Prelude.{ℕ, ◌+◌, ◌-◌, ◌*◌, ◌==◌, ◌&&◌, nat_le, if◌then◌else◌, Bool, false, List, [], ◌∷◌, ◌++◌, length}
use Rattle.std.specs.List.{slice_split, join_with_byte, list_all}

-- the parts of a line are separated by one space, 32
abbrev pub parts_of : List ℕ → List (List ℕ)
parts_of line = slice_split (λ b. b == 32) line

-- the line of these parts
abbrev pub line_of : List (List ℕ) → List ℕ
line_of parts = join_with_byte 32 parts

-- a line with LF, 10, at its end
abbrev pub ended : List ℕ → List ℕ
ended line = line ++ 10 ∷ []

-- what stands between LFs
abbrev pub pieces_of : List ℕ → List (List ℕ)
pieces_of text = slice_split (λ b. b == 10) text

abbrev pub is_digit : ℕ → Bool
is_digit c = nat_le 48 c && nat_le c 57

-- a decimal number without leading zeros
unfoldable pub is_decimal : List ℕ → Bool
is_decimal [] = false
is_decimal (d ∷ ds) = if d == 48 then length ds == 0 else list_all is_digit (d ∷ ds)

-- digits behind a number
abbrev pub read_on : ℕ → List ℕ → ℕ
read_on n [] = n
read_on n (c ∷ cs) = read_on (n * 10 + (c - 48)) cs

-- the number that decimal digits are, of whatever size
abbrev pub value : List ℕ → ℕ
value ds = read_on 0 ds

-- a hexadecimal digit that is a lower-case letter
abbrev pub is_lower : ℕ → Bool
is_lower c = nat_le 97 c && nat_le c 122
