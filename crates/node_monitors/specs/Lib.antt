pub mod Account
pub mod Matters
pub mod Owner
pub mod Spent
pub mod Sums
pub mod Taken
pub mod Tallied
pub mod Tally
