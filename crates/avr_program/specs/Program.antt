-- The instruction at a word address of a program memory (AVR Instruction Set Manual, "The Program and Data Addressing
-- Modes"): after word 0xFFFF comes word 0.
use Rattle.std.specs.Prelude.{ℕ, ◌+◌, ◌%◌, List, map}
use Rattle.std.specs.List.{range_with_len}
use Rattle.avr_decoder.specs.declared.op.Op.{Op}
use Rattle.avr_decoder.specs.Opcodes.{op_at}
use Rattle.ihex_loader.specs.Flash.{word_at}
use Rattle.avr_program.specs.declared.decoded.Slot.{Slot}

abbrev pub op_of : List ℕ → ℕ → Op
op_of flash pc = op_at (word_at flash pc) (word_at flash ((pc + 1) % 65536))

abbrev pub slot_of : List ℕ → ℕ → Slot
slot_of flash pc = record { op = op_of flash pc; fill = 0 }

-- what the slots of the word addresses below n hold
unfoldable pub slots_below : ℕ → List ℕ → List Slot
slots_below n flash = map (slot_of flash) (range_with_len 0 n)
