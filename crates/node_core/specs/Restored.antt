-- A node that is restored from its numbers, the I/O bytes that its board keeps and its SRAM, and when it is refused.
use Rattle.std.specs.Prelude.{◌≡◌, ◌⊎◌, ℕ, ◌+◌, ◌≤◌, ◌<◌, List, length, Option, None, Some, take, slice_index, ◌==◌}
use Rattle.air_base.specs.Bounds.{LAST_CYCLE}
use Rattle.board_io.specs.Kept.{first_refused}
use Rattle.board_io.specs.Saved as board
use Rattle.data_space.specs.declared.cpu.Cpu.{Cpu}
use Rattle.device_base.specs.Numbers.{part}
use Rattle.device_base.specs.declared.numbers.TheConstants.{CORE_NUMBERS, DEVICE_NUMBERS}
use Rattle.serial_ports.specs.Script.{ScriptBytes}
use Rattle.node_core.specs.Numbers.{first_outside, numbers_of}
use Rattle.node_core.specs.State.{NodeState}
use Rattle.node_core.specs.declared.restore.RestoreFault.{RestoreFault}
use Rattle.node_core.specs.declared.restore.RestoreFault.TheVariants.{Number, Io, NoMemory}

-- what the bounds of the core's numbers say
pub record IsCore (n : List ℕ) : Type 0 where
  pub bytes : (k : ℕ) → k < 33 → slice_index n k ≤ 255  -- r0 to r31, SREG
  pub sp : slice_index n 33 ≤ 65535
  pub pc : slice_index n 34 ≤ 65535
  pub rampz : slice_index n 35 ≤ 1
  pub wait : slice_index n 36 ≤ 7
  pub owed : slice_index n 37 ≤ 1
  pub asleep : slice_index n 38 ≤ 1
  pub stop : slice_index n 39 ≤ 26
  pub count : slice_index n 40 ≤ LAST_CYCLE

-- the registers of the core by their numbers
abbrev pub cpu_of : List ℕ → Cpu
cpu_of n = record {
  r = take 32 n;
  sreg = record { bits = slice_index n 32 };
  sp = slice_index n 33;
  pc = slice_index n 34;
  rampz = slice_index n 35 == 1;
}

-- why a node is refused that has reached a cycle: for its first number outside its bound, else for its first byte that
-- cannot be the one at its address
abbrev pub fault_by : Option ℕ → Option ℕ → Option RestoreFault
fault_by (Some place) refused = Some (Number place)
fault_by None (Some k) = Some (Io (0x20 + k))
fault_by None None = None

abbrev pub fault_of : ℕ → List ℕ → List ℕ → Option RestoreFault
fault_of cycle n io = fault_by (first_outside cycle n) (first_refused io)

-- it is refused so. For want of memory only one is that has no fault
abbrev pub IsRefused : ℕ → List ℕ → List ℕ → RestoreFault → Type 0
IsRefused cycle n io fault = (fault_of cycle n io ≡ Some fault) ⊎ ((fault ≡ NoMemory) × (fault_of cycle n io ≡ None))

-- the state of node k with this program memory, these bytes that arrive, the window from one cycle on and below
-- another, and this byte time, that has these numbers, I/O bytes and SRAM
pub record IsRestored (k : ℕ) (image : List ℕ) (arrivals : ScriptBytes) (first last byte_time : ℕ) (n io bytes : List ℕ) (s : NodeState) : Type 0 where
  pub number : s.number ≡ k
  pub flash : s.flash ≡ image
  pub script : s.script ≡ arrivals
  pub from : s.from ≡ first
  pub to : s.to ≡ last
  pub registers : length s.cpu.r ≡ 32
  pub numbers : numbers_of s ≡ n
  pub board : board.IsRestored byte_time (part CORE_NUMBERS DEVICE_NUMBERS n) io s.board
  pub sram : s.sram ≡ bytes
