-- What a run of a node answers, and where the node then stands.
use Rattle.std.specs.Prelude.{◌≡◌, ℕ, ◌≤◌, ◌<◌, false, is_some}
use Rattle.air_base.specs.NodeRun.{Timed, Rests, Stops, Sends, Asks}
use Rattle.node_core.specs.declared.row.Row.{Row}
use Rattle.node_core.specs.State.{NodeState}
use Rattle.node_core.specs.Cycle.{node_kind}
use Rattle.node_core.specs.declared.node.Reached.{Reached}
use Rattle.node_core.specs.declared.node.Reached.TheVariants.{Cycle, Sent, Ask, Stopped, NoMemory}

-- a node that was at v and was to run the cycles below `to` answers so, and is at `new`
abbrev pub IsReached : Timed NodeState Row → ℕ → Reached → Timed NodeState Row → Type 0
IsReached v to Cycle new = Rests node_kind v to new × (is_some new.state.stop ≡ false)
IsReached v to (Sent c b) new = (c < to) × Sends node_kind v c b new
IsReached v to (Ask c) new = (c < to) × Asks node_kind v c new
IsReached v to Stopped new = (new.cycle ≤ to) × Stops node_kind v new
IsReached v to NoMemory new = (new.cycle ≤ to) × Rests node_kind v new.cycle new
