-- The laws of the order and of the machine, composed.
pub mod Composed
-- The steps of running threads, one after another, are moves of the machine.
pub mod Running
