-- How a list of sends begins, and what more sends change in that.
mod Heads
-- The frames, the sure frames and the open part of a list, one step on.
mod Behind
-- What more sends change: nothing in the sure frames, and of what is held only the open part counts.
pub mod Cuts
-- An open list is one of which more sends can make a frame.
mod Opens
-- A walk along a list of sends, by frames or single sends.
mod Walks
