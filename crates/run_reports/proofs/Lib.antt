-- What a cycle leaves of a node's state: its number, and the end of its window.
pub mod Given
-- The rows of one cycle of a node: few, and those that are traced lie in the window.
pub mod Cycles
-- The rows of a run that count in a profile: those of the cycles below the window's end, however far the run goes on.
pub mod Runs
-- The sends that a run's rows tell are those of its air.
pub mod Told
-- Sniffers of all nodes, to which a run is fed epoch by epoch.
pub mod Feeding
-- The tallies of all nodes, a row and a node at a time.
pub mod TalliesMore
