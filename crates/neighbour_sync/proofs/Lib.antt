-- What the loads of clocks show.
pub mod Reached
-- What each call makes of the record is sound again.
pub mod Keeps
-- Words after one of them is stored, and where they lie.
pub mod Words
-- Whose seat a view is.
pub mod Views
-- The six kinds of step of a node's seat keep the rule.
pub mod NodeSteps
-- The three kinds of step of the air's seat keep the rule.
pub mod AirSteps
-- The rule holds of the table at the start, all of whose words are 0.
pub mod Laying
-- What each call owes to the table, from what the fields of the words and of the seat keep.
pub mod Calls
-- The seat of one node more.
pub mod Seating
-- What a node's looks add up to.
pub mod Seeing
-- What one try adds to the looks before it.
pub mod Trying
-- What the record's answers tell of it, and a look of a node at its sent word.
pub mod Telling
-- What words and record show is a consistent state.
pub mod Shown
-- What the running calls make of words and record is what the machine's moves make of the state that these show.
pub mod Stepping
