-- Laws of the radio's transfers: the byte time stays, the cycle from which on it may send never falls, and a byte is
-- sent only from that cycle on and moves it by the byte time.
pub mod RadioLaws
-- The numbers of the radio: what their bounds say, and the one radio that has them.
pub mod RadioSaved
-- Stretches in order: the next byte is that of the first that is not over.
pub mod InOrder
-- The bytes of a script, stretch by stretch.
pub mod ScriptArrivals
-- The bytes of a stretch, by their numbers.
pub mod StretchArrivals
-- The numbers of the interface: what their bounds say, and the one interface that has them.
pub mod SpiSaved
-- Numbers of what may be absent: a transmission is again that of its numbers.
pub mod TransmissionSaved
-- The numbers of the port: what their bounds say, and the one port that has them.
pub mod UsartSaved
