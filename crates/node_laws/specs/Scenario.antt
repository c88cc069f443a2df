-- What is saved of a node of a run, and that it is accepted again as that node.
use Rattle.std.specs.Prelude.{◌≡◌, ℕ, ◌^◌, ◌<◌, None, List, length, slice_index}
use Rattle.board_io.specs.Kept.{first_refused, io_of}
use Rattle.node_core.specs.Numbers.{first_outside, numbers_of}
use Rattle.data_space.specs.declared.regions.TheConstants.{IO_COUNT, SRAM_LEN}
use Rattle.device_base.specs.declared.numbers.TheConstants.{NUMBERS}
use Rattle.node_core.specs.State.{NodeState}
use Rattle.node_runner.specs.Scenario.{IsRestoredIn, ScenarioOf}
use Rattle.node_laws.specs.Node.{AreBytes}

-- bytes, so many of them
pub record HasBytes (count : ℕ) (xs : List ℕ) : Type 0 where
  pub length_is : length xs ≡ count
  pub bytes : AreBytes xs

-- node k of a scenario, in this state before cycle c: its numbers, its I/O bytes and its SRAM have the lengths and the
-- widths in which they are saved, none is refused at that cycle, and the node that is restored from them is this one
pub record IsSaved (sc : ScenarioOf) (k c : ℕ) (u : NodeState) : Type 0 where
  pub count : length (numbers_of u) ≡ NUMBERS
  pub widths : (i : ℕ) → slice_index (numbers_of u) i < 2 ^ 64
  pub io : HasBytes IO_COUNT (io_of u.board)
  pub sram : HasBytes SRAM_LEN u.sram
  pub within : first_outside c (numbers_of u) ≡ None
  pub allowed : first_refused (io_of u.board) ≡ None
  pub restored : IsRestoredIn sc k (numbers_of u) (io_of u.board) u.sram u
