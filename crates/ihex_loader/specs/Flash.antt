-- The flash of the ATmega128: 131,072 bytes, which the program counter reads as 65,536 words, low byte first
-- (ATmega128 datasheet, "In-System Reprogrammable Flash Program Memory"; AVR Instruction Set Manual, "LPM").
use Rattle.std.specs.Prelude.{ℕ, ◌+◌, ◌-◌, ◌*◌, ◌/◌, ◌%◌, List, [], ◌∷◌, ◌++◌, length, replicate, slice_index}
use Rattle.std.specs.List.{flat_map}

-- what a flash has: the byte at each address, and one more than the highest address that was given
pub record Image : Type 0 where
  pub bytes : List ℕ
  pub used : ℕ

-- the byte at a byte address
abbrev pub byte_at : List ℕ → ℕ → ℕ
byte_at flash a = slice_index flash a

-- the word at a word address, low byte first
abbrev pub word_at : List ℕ → ℕ → ℕ
word_at flash pc = byte_at flash (2 * pc) + 256 * byte_at flash (2 * pc + 1)

-- the bytes of words, low byte first
abbrev pub bytes_of_words : List ℕ → List ℕ
bytes_of_words words = flat_map (λ w. w % 256 ∷ w / 256 ∷ []) words

-- these bytes, and behind them 0xFF, as erased flash is, up to n bytes
unfoldable pub padded : ℕ → List ℕ → List ℕ
padded n bytes = bytes ++ replicate (n - length bytes) 255

-- the flash that has these words from word 0 on
abbrev pub image_of_words : List ℕ → Image
image_of_words words = record { bytes = padded 131072 (bytes_of_words words); used = 2 * length words }
