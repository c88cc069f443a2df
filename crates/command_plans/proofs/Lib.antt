-- A text in three pieces on its way to a stream: where a write fails, a front of the whole was taken.
pub mod Pieces
-- How a plan is read on.
pub mod Steps
-- How a part of the work ends the call.
pub mod Endings
