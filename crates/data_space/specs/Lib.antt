pub mod Core
pub mod Memory
pub mod Space
pub mod Sequence
