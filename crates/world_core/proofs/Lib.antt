-- What lies on the way back along one node's sends.
pub mod Chained
-- What the walk back along one node's sends may leave out.
pub mod Looks
-- The audible sends of one node after another are all audible sends.
pub mod NodeByNode
-- The ways back, one send more.
pub mod Building
-- The sends that a cut keeps.
pub mod Cutting
-- What the world's sends are, cycle by cycle.
pub mod Sends
-- A node by itself, stepped with the true answers, goes as it goes in the world.
pub mod Alone
-- What a node's runs and answers are in the global order.
pub mod OrderSteps
-- The air of a whole run keeps the laws of a world.
pub mod Laws
-- Two lists in order of a key that agree at each key are the same; so a stable sort of lists by node gives them by key,
-- then node.
pub mod Sorted
-- The rows of the world, cycle by cycle, and those of a node that stopped.
pub mod OrderRows
-- A run that begins again in a moment of the world goes on as the world does.
pub mod Resumed
-- The table of places, with no link and with one link more.
pub mod LinkRows
-- The table of the nodes that each node hears: one list more, and what a list says.
pub mod NeighbourRows
-- The first entry that breaks a rule: one entry more, and what a fault excludes.
pub mod FirstFaults
-- Links that a topology takes, and those that it refuses.
pub mod Links
-- The loops of a topology: the greatest latency, the place of a link, and spans that stand in order.
pub mod Latencies
-- The search among spans that stand in order.
pub mod Search
-- What is heard does not depend on the order in which the sends of different nodes stand.
pub mod Order
-- A list of sends that lie apart, told from its front on: each send behind the one before it.
pub mod Spaced
-- From a send of a node on, and for the byte time that begins with it, the node sends nothing more.
pub mod Ahead
-- A sample that is reached hears what the world gives it, however many sends come later.
pub mod Final
-- Sends below a cycle, and what is posted.
pub mod Counts
-- What each step of the record keeps.
pub mod Steps
-- How many sends there can be.
pub mod Room
-- A post and a sample keep the record.
pub mod Records
-- A cut keeps a state consistent; which sends are gone, by number; and what a needed node is.
pub mod Cuts
-- Worked rows of the definitions, computed.
pub mod Rows
