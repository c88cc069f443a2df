-- What the calls of a timer keep.
pub mod Timers
-- What the calls of USART0, the serial peripheral interface and the radio keep.
pub mod Ports
-- What the calls of a board keep.
pub mod Boards
