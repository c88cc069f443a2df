-- One line of the pass that finds the labels.
pub mod Labels
-- One line of the pass that assembles.
pub mod Steps
