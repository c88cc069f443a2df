pub mod Profiles
pub mod Frames
pub mod Sniffing
pub mod Tallies
