-- The verdict of a plan that goes on by what another one got.
pub mod Verdicts
-- A network that a command has accepted is that of accepted texts.
pub mod Networks
-- How long the text of a state is.
pub mod Sizes
-- How many sends are saved of a run.
pub mod Room
-- The pieces of a run that is saved and resumed are the whole run.
pub mod Joined
-- The networks that no file describes are scenarios: that of `node`, and those of samples.
pub mod Made
-- Saves in turn are one save.
pub mod InTurn
