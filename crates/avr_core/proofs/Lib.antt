-- The effect of an instruction, by its class: one that ends takes a cycle or more.
pub mod Executes
-- The flags are changed only where an instruction writes the data space, in which SREG lies, or sets flag I itself.
pub mod Flags
-- What an instruction of the program's flow leaves as it is: whatever each load and each store of the bus leaves.
pub mod FlowKeeps
-- An instruction of the program's flow that ends takes a cycle or more.
pub mod FlowTakes
-- No instruction on registers but BSET and BCLR changes the flag I, bit 7 of the flags byte.
pub mod KeepsI
-- What a plain instruction leaves, part by part.
pub mod Lefts
-- What an instruction on memory leaves as it is: whatever each load and each store of the bus leaves.
pub mod MemoryKeeps
-- An instruction on memory that ends takes a cycle or more.
pub mod MemoryTakes
-- Two pushes to the internal SRAM leave the core but for the stack pointer.
pub mod Pushes
-- An instruction that stops leaves the program counter as it was: only the end of an instruction moves it.
pub mod Stops
-- A register instruction takes at least a cycle.
pub mod Takes
