-- A state that agrees at each node of the topology and at each sample is consistent.
pub mod ByNodes
-- No step changes the world.
pub mod Worlds
