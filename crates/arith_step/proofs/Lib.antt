-- The flags of sums, differences and shifts from tables, put into a flags byte at once: tests over all carries and
-- bytes.
pub mod Carries
-- The flags of a result from a table, and put into a flags byte at once: tests over all bytes and flags.
pub mod Signs
