-- The sends of a run are made in order of cycle, then node; so are those of them that pass a test, which a record has
-- of each node, once they are sorted by node and then by cycle.
pub mod KeptSends
