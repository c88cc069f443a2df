-- A scenario's fleet keeps what the global order asks, so its air is a world.
pub mod Sound
-- What accepted texts give is a scenario, whose program memories have bytes.
pub mod Accepted
-- A runner's count is its number of noted sends.
pub mod Counts
-- What a node's runs make of a runner.
pub mod Events
-- What one step of one runner is.
pub mod Advance
-- A runner that is live, and one that is not.
pub mod Places
