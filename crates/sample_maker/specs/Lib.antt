pub mod Ring
pub mod Network
pub mod Sample
pub mod Counts
