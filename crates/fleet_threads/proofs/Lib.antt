-- What the answers of the air, waiting or not, have in common.
pub mod Asks
-- What a step makes of a node that is under way.
pub mod Steps
-- Lists of nodes: their numbers, and what holds of each.
pub mod Lists
-- The nodes of an epoch, as one after another is begun and comes back.
pub mod Nodes
-- The rows of the nodes, one after another, and in order of cycle.
pub mod Gathered
-- The rows of a run, from one epoch to the next.
pub mod NextRows
-- The rows of an epoch, when all nodes have come to its end.
pub mod Ends
-- From one epoch to the next.
pub mod Epochs
-- What may be moved to a thread, and what threads may share.
pub mod Crossing
