-- Decimal digits.
pub mod Digits
-- What is written is read as what was written.
pub mod Again
-- What is read is what would be written.
pub mod Found
-- Bytes are read as they are written, and written as they were read.
pub mod HexBytes
-- What the reader gives, in terms of what would be written.
pub mod Laws
-- What the loops of the reader keep.
pub mod Loops
-- Decimal numbers are read as they are written, and written as they were read.
pub mod Numerals
-- The pieces of which a state's text is put together.
pub mod Pasted
-- What the functions of the writer append, of what those below them did.
pub mod Pieced
-- A text that is cut at a byte.
pub mod Pieces
-- Texts that are appended, one behind another, to a page in front of a sink.
pub mod Put
-- What a reader took is what stood there.
pub mod Taken
-- Texts whose bytes all lie above a separator, so that it does not stand in them, and how they are joined and cut.
pub mod Visible
