-- A test of numbers that the checker computes over a whole range holds at each number of the range.
pub mod Computed
-- A flag set or cleared by bit operations is the flag by arithmetic: a test over all bytes and flags.
pub mod Bits
-- The lowest line that is set.
pub mod Lowest
-- Each cause is the one of its number.
pub mod Causes
