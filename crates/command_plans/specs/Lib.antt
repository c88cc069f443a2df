pub mod Plan
pub mod Reading
pub mod Ends
pub mod Parts
