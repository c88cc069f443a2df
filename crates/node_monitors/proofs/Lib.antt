-- The account of the rows that matter is that of all rows.
pub mod Accounts
-- Counting the numbers of a range that pass a test.
pub mod Counts
-- Tables that grow.
pub mod Growing
-- What one row more, before all others, owns.
pub mod Owners
-- That one row more fits, and what the sums of all rows are.
pub mod Rooms
-- What the last row gets of cycles that are shared out.
pub mod Shares
-- What the sums are with one row more.
pub mod Steps
-- Tables of the words of flash.
pub mod Tables
-- One row more is tallied, and what the sums of all rows are.
pub mod Tallies
-- The parts of an account are the window.
pub mod Whole
