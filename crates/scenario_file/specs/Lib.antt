pub mod Document
pub mod Rules
pub mod Faults
pub mod Holds
pub mod Scenario
pub mod Shown
