-- The lines that are still to come.
pub mod Behind
