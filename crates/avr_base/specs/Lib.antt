pub mod Causes
pub mod Flags
pub mod Lines
