-- The node that a saved state has is the one that has its numbers, its I/O bytes and its SRAM.
pub mod NodeIs
-- A run that begins again in a moment of another, without the sends that are over, makes the rest of its rows.
pub mod Continues
-- The bounds of a state's text are those from which a node can be restored.
pub mod Bounded
-- The state of a run: its nodes as they are at the cycle reached, and the sends that can still be heard in order.
pub mod Saving
-- What a test says of the nodes of a list, and of those of a run.
pub mod Counted
-- The SRAM of each node of a state has its size.
pub mod Sized
