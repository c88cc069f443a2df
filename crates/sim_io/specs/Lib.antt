pub mod Digits
pub mod Failed
pub mod Outside
pub mod Stream
