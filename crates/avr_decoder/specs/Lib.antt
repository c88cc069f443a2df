pub mod Class
pub mod Opcodes
pub mod Words
