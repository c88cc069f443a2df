-- The SRAM of a node as a memory, and what instructions do with the stack in it (ATmega128 datasheet, "SRAM Data
-- Memory", "Stack Pointer").
use Rattle.std.specs.Prelude.{◌≡◌, ℕ, ◌+◌, ◌-◌, ◌/◌, ◌%◌, ◌==◌, Bool, List, length, slice_set}
use Rattle.avr_decoder.specs.declared.op.Op.{Op}
use Rattle.avr_decoder.specs.declared.op.Op.TheVariants as op
use Rattle.board_io.specs.declared.clocked.ClockedBoard.{ClockedBoard}
use Rattle.data_space.specs.declared.cpu.Cpu.{Cpu}
use Rattle.data_space.specs.Core.{advanced}
use Rattle.data_space.specs.Sequence.{Outcome}
use Rattle.node_core.specs.declared.bus.NodeBus.{NodeBus}
use Rattle.node_core.specs.Bus.{bus_get, bus_put, with_io}
use Rattle.node_core.specs.Execute.{executed}
use Rattle.instruction_laws.specs.Stack.{Accesses, HasRoom, ended}

-- the first data address of the SRAM, and its last
abbrev pub sram_first : ℕ
sram_first = 0x0100

abbrev pub sram_last : ℕ
sram_last = 0x10FF

-- the accesses of a node
abbrev pub node_accesses : Accesses NodeBus
node_accesses = record { get = bus_get; put = bus_put }

-- whether it has a byte at each of the addresses
abbrev pub is_sram : List ℕ → Bool
is_sram bytes = length bytes == 4096

abbrev pub has_sram : NodeBus → Bool
has_sram bus = is_sram bus.sram

-- a bus on which this byte is put at a data address of the SRAM
abbrev pub with_byte : ℕ → ℕ → NodeBus → NodeBus
with_byte at x bus = record bus { sram = slice_set bus.sram (at - sram_first) x }

-- a bus on which the address so many words on is put at the stack pointer, its low byte, and below it, its high byte
abbrev pub with_return : ℕ → Cpu → NodeBus → NodeBus
with_return words cpu bus =
    with_byte (cpu.sp - 1) ((cpu.pc + words) % 65536 / 256) (with_byte cpu.sp ((cpu.pc + words) % 65536 % 256) bus)

-- the stack pointer is in the SRAM, with room for so many bytes
abbrev pub HasStack : ℕ → Cpu → Type 0
HasStack room cpu = HasRoom sram_first sram_last room cpu

-- a node executes one instruction after another; its devices go on meanwhile, and the later one finds this board, in
-- this cycle
abbrev pub then_executed : List ℕ → Op → ClockedBoard → Outcome NodeBus → Outcome NodeBus
then_executed flash instruction io before = executed flash instruction before.cpu (with_io before.bus io)

-- a node executes a call of so many words and the return that follows it, whatever its devices do meanwhile: the
-- program goes on behind the call, all else of the core is as before, and the SRAM still has the return address
abbrev pub NodeComesBack : List ℕ → Op → ℕ → Cpu → NodeBus → Type 0
NodeComesBack flash call words cpu bus =
    (io : ClockedBoard)
    → then_executed flash op.Ret io (executed flash call cpu bus) ≡ ended 4 (advanced words cpu) (with_io (with_return words cpu bus) io)
