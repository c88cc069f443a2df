-- The addresses of kept bytes in the code are those of the table of registers.
pub mod Kept
-- What the loop of the reader keeps: what is still read, put behind what was read before, is what the whole is.
pub mod Lines
