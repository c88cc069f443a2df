-- One send more, of those that are heard.
mod More
-- One entry more in a list whose entries come late enough behind one another, node by node.
mod NextEntry
-- A world's laws are what its lists keep entry by entry.
mod Lawfulness
