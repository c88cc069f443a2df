-- Single flags of a flags byte that others were put into.
pub mod Flags
-- What the tests of a difference of bytes say of the bytes, and those of the difference of two words, byte by byte, say
-- of the words: whether it is below 0, whether it is 0, and its sign in two's complement, from bit 7 and from whether
-- it fits.
pub mod Signs
-- The flags of a difference of bytes, and of one of words in two steps.
pub mod Compared
-- Instructions that put a byte and flags: what the next one reads, and what stands there in the end.
pub mod Registers
-- Sums and differences of words, byte by byte.
pub mod Sums
-- Two bytes in turn: the sum and the difference of words.
pub mod Pairs
-- C and H of sums and differences of bytes.
pub mod Carried
-- ADIW and SBIW: the word that they leave in a pair, and its flags.
pub mod Constants
-- Sums and differences of numbers of which the lower part is below m: what a carry or a borrow from it comes to above.
pub mod Longer
-- Pushes and pops over a memory.
pub mod Stack
-- A push and the pop behind it, and a call and the return behind it, over a memory.
pub mod Returns
-- The SRAM of a node: a memory, which no cycle makes longer or shorter.
pub mod Sram
-- A push and the pop behind it, and a call and the return behind it, in the SRAM of a node.
pub mod NodeStack
