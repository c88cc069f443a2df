-- Numbers as they are printed: hexadecimal digits in upper case, and the distance of a relative jump or branch,
-- which the AVR Instruction Set Manual counts in words and assemblers print in bytes.
use Rattle.std.specs.Prelude.{ℕ, ◌+◌, ◌*◌, ◌/◌, ◌%◌, ℤ, pos, negsuc, List, [], ◌∷◌, ◌++◌, codes, decimal, true}
use Rattle.std.specs.Fmt.{digit_glyph}

-- a byte
unfoldable pub hex2 : ℕ → List ℕ
hex2 n = digit_glyph true (n / 16) ∷ digit_glyph true (n % 16) ∷ []

-- a word
unfoldable pub hex4 : ℕ → List ℕ
hex4 n = hex2 (n / 256) ++ hex2 (n % 256)

-- a distance in words, printed in bytes
unfoldable pub offset_text : ℤ → List ℕ
offset_text (pos n) = codes ".+" ++ decimal (2 * n)
offset_text (negsuc n) = codes ".-" ++ decimal (2 * (n + 1))
