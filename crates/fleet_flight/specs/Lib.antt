pub mod Origin
pub mod Paused
pub mod Rows
pub mod Turns
pub mod Watched
pub mod Alone
pub mod Shadows
