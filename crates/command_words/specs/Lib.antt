pub mod Words
pub mod Apps
pub mod Table
pub mod Split
