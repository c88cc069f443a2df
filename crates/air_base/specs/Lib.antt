pub mod Bounds
pub mod Each
pub mod NodeKind
pub mod NodeRun
