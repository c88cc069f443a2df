pub mod Answers
pub mod Member
pub mod Nodes
pub mod Ending
pub mod Run
pub mod Turns
