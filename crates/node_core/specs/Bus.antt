-- The data space of a node beside the core (ATmega128 datasheet, "SRAM Data Memory"): the I/O registers below 0x0100,
-- the internal SRAM at 0x0100 to 0x10FF, and nothing above it.
use Rattle.std.specs.Prelude.{ℕ, ◌-◌, nat_lt, if◌then◌else◌, Result, Ok, Err, slice_index, slice_set}
use Rattle.avr_base.specs.declared.stop.StopCause.{StopCause}
use Rattle.avr_base.specs.declared.stop.StopCause.TheVariants as stop
use Rattle.board_io.specs.declared.clocked.ClockedBoard.{ClockedBoard}
use Rattle.board_io.specs.Board.{clocked}
use Rattle.board_io.specs.Registers.{io_get, io_put}
use Rattle.data_space.specs.declared.regions.TheConstants.{SRAM_LAST, SRAM_START}
use Rattle.node_core.specs.declared.bus.NodeBus.{NodeBus}
use Rattle.node_core.specs.State.{NodeState}

abbrev pub with_io : NodeBus → ClockedBoard → NodeBus
with_io bus io = record bus { io = io }

-- a load of an I/O register, by what the board gives
abbrev pub board_got : NodeBus → Result (ℕ × ClockedBoard) StopCause → Result (ℕ × NodeBus) StopCause
board_got bus (Ok given) = Ok (given.0, with_io bus given.1)
board_got bus (Err cause) = Err cause

abbrev pub board_put : NodeBus → Result ClockedBoard StopCause → Result NodeBus StopCause
board_put bus (Ok io) = Ok (with_io bus io)
board_put bus (Err cause) = Err cause

-- a load
unfoldable pub bus_get : NodeBus → ℕ → Result (ℕ × NodeBus) StopCause
bus_get bus at =
    if nat_lt SRAM_LAST at then Err stop.PastMemory
    else if nat_lt 0xFF at then Ok (slice_index bus.sram (at - SRAM_START), bus)
    else board_got bus (io_get bus.io at)

-- a store
unfoldable pub bus_put : NodeBus → ℕ → ℕ → Result NodeBus StopCause
bus_put bus at x =
    if nat_lt SRAM_LAST at then Err stop.PastMemory
    else if nat_lt 0xFF at then Ok (record bus { sram = slice_set bus.sram (at - SRAM_START) x })
    else board_put bus (io_put bus.io at x)

-- the data space beside the core, as an instruction of cycle t finds it
abbrev pub bus_at : ℕ → NodeState → NodeBus
bus_at t s = record { io = clocked t s.board; sram = s.sram }

-- the node with what the instruction left of that
abbrev pub with_bus : NodeBus → NodeState → NodeState
with_bus bus s = record s { board = bus.io.board; sram = bus.sram }
