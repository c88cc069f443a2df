-- Numbers by which a device is saved: lists of known length, flags, and bytes of bits.
pub mod Places
