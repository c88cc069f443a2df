pub mod Sampling
pub mod Run
pub mod Moves
pub mod Going
