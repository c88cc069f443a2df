pub mod Branches
pub mod Carries
pub mod Stack
pub mod Sram
