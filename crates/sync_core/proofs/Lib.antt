-- Each step keeps the state consistent, and no list of steps changes a recorded sample.
pub mod Inductive
-- Where no node is behind, all have passed.
pub mod Waiting
-- The send that stands behind n sends of its node has the number n.
pub mod Numbered
-- A list of steps, one step longer.
pub mod Runs
-- What no list of steps and cuts changes.
pub mod Moves
-- The node that is furthest behind waits for nobody, and each node below the limit may go on.
pub mod Going
