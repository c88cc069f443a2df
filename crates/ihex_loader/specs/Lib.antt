pub mod Accepted
pub mod Fault
pub mod Flash
pub mod Hex
pub mod Image
pub mod Line
pub mod Pass
pub mod Written
