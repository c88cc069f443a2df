-- One cycle of a node whose processor only goes on, and in which no device ends anything and no byte arrives.
pub mod Cycles
-- What an instruction leaves: SEI and RETI are those that enable, an instruction that neither enables nor stores leaves
-- the flag I as it was, one that leaves a single cycle takes one, and one that neither loads nor stores leaves the data
-- space.
pub mod Quiet
-- The radio through a cycle: the processor leaves it as it is, and two sends lie apart.
pub mod Radio
-- A run of a node goes on: by a rest, and by a cycle that neither samples nor sends.
pub mod Runs
-- Many cycles of a node that waits or sleeps.
pub mod Idling
-- This kind of node keeps what the order of all nodes asks.
pub mod Steady
-- Of the instructions that end only SLEEP puts the node to sleep.
pub mod Wakes
-- A run in the middle of a cycle: how it gets there, how it goes on where the devices end nothing, and how its cycle
-- ends.
pub mod Strides
-- A round of a run: a rest, room for rows, a stride, and the devices' part of the cycle in which the stride ended.
pub mod Until
-- A part of the data space that no access changes is as it was after an instruction and after an entry, and so is that
-- part of a node's state after the processor's part of a cycle.
pub mod Untouched
-- The clock of a node runs on with the cycles, and its state does not show it.
pub mod Clocks
-- SEI and RETI leave the flag I set, where they do not stop.
pub mod Sei
-- The processor's part of a cycle: what arrives is as it was, at most one instruction more is counted, and at most one
-- row is told.
pub mod Acts
-- What the processor's part of a cycle leaves, by what an instruction does to the core and the data space, and what an
-- entry does.
pub mod Ran
-- An instruction that accesses the internal SRAM, and no other data, leaves the board and SREG, and so does a branch
-- that is not taken.
pub mod Sram
-- A step of a sprint: the processor's part of its cycle, of an instruction that goes on.
pub mod Steps
-- A sprint: what holds of it at the beginning of a cycle, and how a step takes it on or ends it.
pub mod Sprints
-- The turns of a sprint's loops: what holds between two instructions, what an instruction did, and how its cycles pass
-- or end the sprint.
pub mod Turns
-- A stride: what holds of it at the beginning of an instruction, and how a sprint and the processor's part of a cycle
-- take it on or end it.
pub mod Striding
-- What the test of two cores tells.
pub mod Cores
-- Instructions that change the core alone, and do so in the same way as long as the timers alone move.
pub mod Stills
-- An instruction that stops leaves the program counter as it was, whatever its class.
pub mod Stops
-- Polls by SBIS or SBIC of a device's register, and RJMP back to it.
pub mod Polls
-- Rounds of a loop that waits: where a round leads from a core back to it, so do many at once.
pub mod Rounds
-- Loops that count a number down: their rounds do the same wherever it stands.
pub mod Counting
-- SUBI of 1 and SBCI of 0 behind it, as of a number of two bytes: they lower it by one, and their flags do not tell
-- where it stands while its four highest bits stay.
pub mod Borrows
-- The numbers of a node: what their bounds say, the state that they make, and that it is the only one.
pub mod Saved
-- The SRAM of a node has as many bytes after a cycle as before.
pub mod Sized
