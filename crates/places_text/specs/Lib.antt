pub mod Addresses
pub mod Fault
pub mod Known
pub mod Places
pub mod Reading
