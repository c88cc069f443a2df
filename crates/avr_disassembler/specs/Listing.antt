-- A listing: the instructions of a program memory in order of their addresses, a line each (AVR Instruction Set Manual,
-- "JMP", "CALL", "LDS", "STS": these instructions take two words, all others one).
use Rattle.std.specs.Prelude.{ℕ, zero, suc, ◌+◌, ◌%◌, ◌&&◌, not, Bool, false, if◌then◌else◌, List, [], ◌++◌, codes}
use Rattle.std.specs.List.{flat_map, range_with_len}
use Rattle.avr_decoder.specs.Opcodes.{op_at}
use Rattle.avr_decoder.specs.Words.{is_two_words}
use Rattle.avr_disassembler.specs.Text.{line_of}

-- whether a word is the second word of an instruction, where the words at all addresses are these: the word before it
-- begins one of two words
unfoldable pub is_second : (ℕ → ℕ) → ℕ → Bool
is_second word zero = false
is_second word (suc pc) = not (is_second word pc) && is_two_words (word pc)

-- the line of the instruction that begins at a word address; the word after the last is word 0
unfoldable pub instruction_line : (ℕ → ℕ) → ℕ → List ℕ
instruction_line word pc = line_of pc (op_at (word pc) (word ((pc + 1) % 65536))) ++ codes "\n"

-- what a word adds to the listing
unfoldable pub word_lines : (ℕ → ℕ) → ℕ → List ℕ
word_lines word pc = if is_second word pc then [] else instruction_line word pc

-- the listing of so many words from word 0 on
abbrev pub listing_of : (ℕ → ℕ) → ℕ → List ℕ
listing_of word count = flat_map (word_lines word) (range_with_len 0 count)
