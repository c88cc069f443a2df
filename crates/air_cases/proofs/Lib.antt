-- What stands at a place among the sends of a node is the node's send of that number.
pub mod Numbers
