-- Texts that are appended one behind another.
pub mod Behind
-- A text on its way to a sink, page by page: a front is taken, then comes the page, then what is still to come.
pub mod Pages
-- How long a number is in digits.
pub mod Short
-- What a sink has taken, piece by piece.
pub mod Taken
-- A front of a known text that is shorter than its bound is the whole text.
pub mod Whole
