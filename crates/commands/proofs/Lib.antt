-- The lines of a listing that are still to come.
pub mod Lines
-- How the reading of a network ends, and what is left to do then.
pub mod Networks
-- A saved state that is read, and a network that is to go on from it.
pub mod States
-- Where epochs end.
pub mod Epochs
-- The trace of a run, epoch by epoch.
pub mod Traces
-- What each status says of a call.
pub mod Statuses
-- A network and a state of it that are read, from which the run is to go on up to some cycle.
pub mod Onwards
-- States that are written of a run at any of its cycles, and of one from a state on.
pub mod Coming
-- What is read for a sweep, and the runs that it writes one behind another.
pub mod SweepRuns
-- What is read for `watch`: places that are watched, and a state from which they are.
pub mod Placed
-- What is seen of a run, written piece by piece.
pub mod Changing
