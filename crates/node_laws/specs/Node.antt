-- Within which bounds a node stays from reset on: registers, memory and counts beside its board.
use Rattle.std.specs.Prelude.{◌≡◌, ℕ, ◌≤◌, if◌then◌else◌, List, length, slice_index, is_some}
use Rattle.board_io.specs.declared.board.Board.{Board}
use Rattle.data_space.specs.declared.cpu.Cpu.{Cpu}
use Rattle.data_space.specs.declared.regions.TheConstants.{SRAM_LEN}
use Rattle.device_laws.specs.States.{IsBoard}
use Rattle.node_core.specs.State.{NodeState}
use Rattle.node_laws.specs.Within.{BoardWithin}

-- what stands at each place is a byte
abbrev pub AreBytes : List ℕ → Type 0
AreBytes xs = (k : ℕ) → slice_index xs k ≤ 255

pub record CoreWithin (cpu : Cpu) : Type 0 where
  pub count : length cpu.r ≡ 32
  pub bytes : AreBytes cpu.r
  pub sreg : cpu.sreg.bits ≤ 255
  pub sp : cpu.sp ≤ 65535
  pub pc : cpu.pc ≤ 65535

-- the data space beside the core before cycle t: the devices of a board, and the bytes of the SRAM
pub record SpaceWithin (t : ℕ) (b : Board) (bytes : List ℕ) : Type 0 where
  pub count : length bytes ≡ SRAM_LEN
  pub sram : AreBytes bytes
  pub states : IsBoard b
  pub board : BoardWithin t b

-- a node before cycle t; the devices of a stopped one no longer move
pub record NodeWithin (t : ℕ) (s : NodeState) : Type 0 where
  pub flash : AreBytes s.flash
  pub core : CoreWithin s.cpu
  pub space : SpaceWithin (if is_some s.stop then 0 else t) s.board s.sram
  pub wait : s.wait ≤ 7
  pub count : s.count ≤ t
