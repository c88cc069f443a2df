-- The slots of a program memory.
pub mod Slots
