pub mod NodeOf
pub mod Onward
pub mod Paused
pub mod State
