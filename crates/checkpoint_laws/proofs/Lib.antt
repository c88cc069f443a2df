-- What is saved of a node is read again as that node.
pub mod Kept
-- The sends of a run in order of cycle, then node, and those of them that are saved.
pub mod InOrder
-- What is saved of a run keeps all bounds of a state's text.
pub mod Accepted
-- States that are saved one behind another.
pub mod Chains
