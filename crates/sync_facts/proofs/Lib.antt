-- Up to a send of a node and with it, the node sends no more than the send's number and one.
pub mod Counted
-- A node of a world without sends has none to be passed.
pub mod Silent
