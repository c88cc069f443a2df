-- One node that runs by itself, cycle after cycle, where what it hears in each cycle is given.
pub mod Alone
-- A node that runs by itself: stretches of cycles joined, quiet ones passed in one leap, and one that stopped.
pub mod Trails
-- The single global order of cycles, of nodes in any state at all: what each makes in a stretch of cycles in which what
-- it hears is known.
pub mod Ordered
-- A bound of the latencies of all links.
pub mod Near
-- What a node hears shortly after a cycle: of the sends before that cycle, and of no others.
pub mod Hearing
-- All nodes at cycles of their own, between two steps of one of them: how they take off from a pause, and land in one.
pub mod Flights
-- One step of all nodes in flight: a sample is answered as the order of all nodes answers it, and a step keeps all.
pub mod Steps
-- Loops over all nodes: so many of them have been served, and the others are as they were.
pub mod EachNode
-- A record that takes sends: each may be posted behind those before it.
pub mod Records
-- The rows of a run, from one epoch to the next.
pub mod Epoch
-- One node that runs by itself, cycle by cycle, and what is seen of it.
pub mod Following
-- Shadows of a run's nodes: they hear what the nodes heard, so they go the same way, and what is seen of them is what
-- is seen of the nodes.
pub mod Watching
-- The SRAM of each node of a run has the size that it has where the run begins.
pub mod Sizes
-- The shadows with which the nodes of a run are watched from the cycle on that they have reached.
pub mod Shadowed
-- What is seen in spans that are joined, and a byte behind the changes that are seen of it.
pub mod Seen
-- Places that are compared one behind another, and those among them at which nothing is seen in a cycle.
pub mod Quiet
-- A rest of no cycles.
pub mod NoRest
