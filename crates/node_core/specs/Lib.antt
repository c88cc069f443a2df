-- What a node is and does. A reader has to believe these, and nothing below them.
pub mod Bus
pub mod State
pub mod Execute
pub mod Interrupts
pub mod Cycle
pub mod Reached
pub mod Numbers
pub mod Restored
-- What functions inside this crate owe one another, which proofs alone use.
pub mod Shown
pub mod Inside
pub mod Pace
