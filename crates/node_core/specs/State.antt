-- The state of a node between two cycles: one record with a record per part (ATmega128 datasheet, "AVR CPU Core",
-- "Memories"). A cycle's rows are no part of it.
use Rattle.std.specs.Prelude.{ℕ, Bool, false, List, Option, None}
use Rattle.avr_base.specs.declared.stop.StopCause.{StopCause}
use Rattle.board_io.specs.declared.board.Board.{Board}
use Rattle.board_io.specs.Board.{reset_board}
use Rattle.data_space.specs.declared.cpu.Cpu.{Cpu}
use Rattle.data_space.specs.declared.regions.TheConstants.{SRAM_LEN}
use Rattle.data_space.specs.Core.{zero_cpu}
use Rattle.data_space.specs.Memory.{zeros}
use Rattle.serial_ports.specs.Script.{ScriptBytes}

pub record NodeState : Type 0 where
  pub number : ℕ  -- the node's number in its network
  pub flash : List ℕ  -- the bytes of its program memory
  pub script : ScriptBytes  -- the bytes that arrive at its USART0
  pub from : ℕ  -- its Instr and Enter rows exist from this cycle on
  pub to : ℕ  -- and below this one
  pub cpu : Cpu  -- the registers of the core
  pub board : Board  -- the devices, and the I/O registers that hold a byte
  pub sram : List ℕ  -- the bytes of its internal SRAM
  pub wait : ℕ  -- cycles left of the last instruction or entry
  pub owed : Bool  -- whether an instruction is executed before the next interrupt is entered
  pub asleep : Bool
  pub stop : Option StopCause  -- why it stopped, where it did
  pub count : ℕ  -- how many instructions it executed

-- a node at reset: number, flash, script, window and byte time as they are given
abbrev pub reset : ℕ → List ℕ → ScriptBytes → ℕ → ℕ → ℕ → NodeState
reset number flash script from to byte_time = record {
  number = number;
  flash = flash;
  script = script;
  from = from;
  to = to;
  cpu = zero_cpu;
  board = reset_board byte_time;
  sram = zeros SRAM_LEN;
  wait = 0;
  owed = false;
  asleep = false;
  stop = None;
  count = 0;
}
