-- A label is added where there is none of its name.
pub mod Added
-- Aliases, each against its long form.
pub mod Aliases
-- A line's text that is an instruction.
pub mod Bodies
-- The digits of a number, one after another.
pub mod Digits
-- The tables of mnemonics and pointers in the code are those of the definitions.
pub mod Tables
