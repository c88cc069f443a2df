-- Within which bounds the calls of a timer leave its numbers.
pub mod Timers
-- Within which bounds the calls of USART0, the serial peripheral interface and the radio leave their numbers.
pub mod Ports
-- Within which bounds the calls of a board leave its numbers.
pub mod Boards
-- An instruction on registers leaves them within their widths.
pub mod Cores
-- The numbers of a decoded instruction that go to a register or to the program counter fit there: a constant has at
-- most eight bits in its word, an address is the second word.
pub mod Decoded
-- An instruction over a bus that gives bytes leaves the core within its widths, whatever each access gives.
pub mod Accesses
-- A cycle of a node leaves its registers, its memory and its counts within their bounds.
pub mod Nodes
-- A node within its bounds has numbers within theirs: each passes its test, and the 108 are at most 2^41.
pub mod Fits
-- What no cycle of a node changes: its number, its program memory, the bytes that arrive, the window, and the byte time
-- of its radio.
pub mod Fixed
-- The program memories of a scenario that accepted texts give have bytes.
pub mod Images
-- Each node of the global order is within its bounds at the beginning of each cycle.
pub mod Worlds
-- A node within its bounds is the node that is restored from its numbers, its I/O bytes and its SRAM.
pub mod Restores
