-- What the loops of the reader keep: what is still read, put behind what was read before, is what the whole is.
pub mod Lines
