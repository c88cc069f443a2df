pub mod Bounds
pub mod Parts
pub mod Reading
pub mod Shown
pub mod Text
pub mod Writing
