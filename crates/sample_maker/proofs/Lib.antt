-- The links of a ring.
pub mod InRing
