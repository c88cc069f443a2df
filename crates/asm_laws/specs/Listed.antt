-- What the listing of a program memory assembles to.
use Rattle.std.specs.Prelude.{ℕ, ◌+◌, if◌then◌else◌, List, map}
use Rattle.std.specs.List.{range_with_len}
use Rattle.avr_decoder.specs.Opcodes.{op_at}
use Rattle.avr_disassembler.specs.Listing.{is_second}
use Rattle.asm_laws.specs.Printed.{without_ignored}

-- the word at an address as it comes back: as it is, but of JMP and CALL the ignored bits are 0
abbrev pub kept_word : (ℕ → ℕ) → ℕ → ℕ
kept_word word at = if is_second word at then word at else without_ignored (op_at (word at) 0) (word at)

-- the word address behind the instructions that a listing of so many words has: one more, where the last of these words
-- begins an instruction of two
abbrev pub listing_end : (ℕ → ℕ) → ℕ → ℕ
listing_end word count = if is_second word count then count + 1 else count

-- the words of the instructions of such a listing, from word 0 on
abbrev pub listed_words : (ℕ → ℕ) → ℕ → List ℕ
listed_words word count = map (kept_word word) (range_with_len 0 (listing_end word count))
