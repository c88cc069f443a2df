-- The array of rules in the code is the table, no address past it has a row, and the start values.
pub mod Agree
-- A byte that arrives leaves the frame that runs alone.
pub mod Turns
-- Cycles in which nothing ends, and in which the lines stay.
pub mod Steady
-- Cycles of the board in which nothing ends, and leaps over them.
pub mod Leaps
-- What a cycle of the board does to its radio, and what leaves the radio alone.
pub mod Radio
-- A timer that is halted stands as it is.
pub mod Halted
-- A cycle of the board: its timers, and then what looks at none.
pub mod Ports
-- Where a register enables no interrupt, no line of its sources is set.
pub mod Enabled
-- A board that lags: what its value is, and what stays known of it.
pub mod Lags
-- An access that looks at no timer is the same on a board whose timers lag, and leaves what is known of it.
pub mod Apart
-- An access to USART0, to the serial peripheral interface or to a kept byte is the same on a board whose timers lag,
-- and leaves these.
pub mod Beside
-- A write of SPDR where the serial peripheral interface asks for no interrupt: of what is known of the board, only its
-- next end changes.
pub mod Sent
-- A write of UDR0 where room for a byte to send asks for no interrupt: of what is known of the board, only its next end
-- changes.
pub mod Posted
-- A write of a timer that stands, before it and after it, is the same on a board whose timers lag, and leaves what is
-- known of it.
pub mod Standing
-- What serving an interrupt and a write of TIFR or ETIFR do to a board whose timers lag: they clear flags, now as well
-- as later.
pub mod Served
-- A read that changes nothing gives the same as long as the timers alone move.
pub mod Still
-- The numbers of a board by its devices, and the one board that has them.
pub mod OneBoard
-- The first byte that cannot be the one at its address, as a loop over the places finds it.
pub mod Refused
