pub mod Bytes
pub mod Files
