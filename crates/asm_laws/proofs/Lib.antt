-- The printed text of each instruction of two words assembles to those words.
pub mod Doubles
-- What an operand that is printed gives in its field: computed for each number that the field can have.
pub mod Parts
-- The printed text of the instructions that take up most words assembles to them: the decoder's lemma of the row, what
-- the operands give in their fields, and that opcode and fields add up to the word, which is computed.
pub mod Families
-- The printed text of the loads and stores with a displacement assembles to them.
pub mod Displaced
-- The printed text of each instruction of one word assembles to that word: by its row where the row has many words, and
-- computed word by word where rows are small.
pub mod Singles
-- How a line of printed bytes is cut: its comment and blanks, its address, its mnemonic and its operands.
pub mod Cut
-- The bytes of what is printed of an instruction: mnemonics, operands and addresses are visible bytes that separate
-- nothing.
pub mod Bytes
-- The numbers of an instruction's printed operands fit their digits: a constant or an I/O address has at most eight
-- bits in its word.
pub mod Bounds
-- The line of an instruction, as it is printed, is cut into its address, its mnemonic and its operands.
pub mod Lines
-- The printed line of an instruction, as a line of a source at its own address, has the instruction's words.
pub mod Pieces
-- The listing of a program memory assembles to its words.
pub mod Listed
-- The words that come back of a listing have the same listing.
pub mod Again
