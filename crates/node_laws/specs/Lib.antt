pub mod Within
pub mod Node
pub mod Scenario
