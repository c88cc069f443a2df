-- The base behind some lines is what the last of them that sets it says.
pub mod Bases
-- A flash that a file gives has bytes: what a record says is pairs of digits, and what no record gives is 0xFF.
pub mod Bytes
-- An accepted image, as relations between lines and as functions of the bytes.
pub mod Determined
-- The digits of a record have no LF and no CR, so the record is one line.
pub mod Digits
-- No line of a file is faulty exactly where each is sound.
pub mod Faultless
-- The bytes that some lines put are, address by address, the last that one of them says; and `used` is behind them.
pub mod Given
-- A line without a fault, and what the loader has after it.
pub mod Good
-- The last of some lines that says a number.
pub mod LastSaid
-- Lines one after another.
pub mod Lines
-- One pass over the lines finds the first fault.
pub mod OnePass
-- Bytes that are put at addresses, one after another.
pub mod Puts
-- The lines of the records.
pub mod RowLines
-- The whole file.
pub mod Whole
-- Words as bytes, and what is behind them.
pub mod Words
-- A record that was written is read.
pub mod Written
-- What the loader has behind the lines of the records.
pub mod Wrote
