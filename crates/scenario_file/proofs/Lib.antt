-- Lists of a document beside the lists of the code.
pub mod Lists
-- What a passed test of a row says of the numbers that it holds.
pub mod Numbers
-- The rules as one, and the tests of the faults.
pub mod Held
-- Inputs and scripts.
pub mod Scripts
-- Spans of links, in the order of the links.
pub mod Spans
-- Lists of links of which no two are equal.
pub mod LinkLists
-- What holds of a document without a fault.
pub mod Clean
-- The topology of a document without a fault is one.
pub mod Topologies
-- What holds of each scenario that a document says.
pub mod Law
-- What holds of each scenario that a text says.
pub mod Said
