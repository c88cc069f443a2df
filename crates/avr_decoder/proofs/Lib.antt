-- No word matches two rows: any two patterns of the table have a 0 and a 1 at one place.
pub mod Apart
-- Words 0xF000 to 0xFFFF: branches on a flag, and single bits of registers.
pub mod Branches
-- Words 0x3000 to 0x7FFF and 0xC000 to 0xEFFF: constants, RJMP and RCALL.
pub mod Constants
-- Words 0x8000 to 0x8FFF and 0xA000 to 0xBFFF: loads and stores with a displacement, IN and OUT.
pub mod Displaced
-- Words 0x9000 to 0x91FF: loads.
pub mod Loads
-- The rows of the opcode table whose instructions take two words are those of four patterns, so the second word changes
-- nothing, and a test of the bits of the first one tells.
pub mod Long
-- From a test that the checker computes over a range of words to the instruction at each of them.
pub mod Rows
-- Words 0x9400 to 0x95FF: instructions over one register or none, JMP and CALL.
pub mod Singles
-- The fields of an opcode word, by the names that they have in `src/fields.rt`, each by a pattern that has it.
pub mod Spelled
-- Words 0x9200 to 0x93FF: stores.
pub mod Stores
-- Words 0x0000 to 0x2FFF: NOP, products and the instructions over two registers.
pub mod TwoRegisters
-- Which words begin an instruction of two words, by fields.
pub mod Widths
-- Words 0x9600 to 0x9FFF: ADIW, SBIW, single bits of I/O registers, and MUL.
pub mod Words
