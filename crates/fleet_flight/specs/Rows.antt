-- The rows of a run up to a cycle. Own to this simulator.
use Rattle.std.specs.Prelude.{ℕ, ◌==◌, if◌then◌else◌, List, [], ◌++◌}
use Rattle.node_core.specs.declared.row.Row.{Row}
use Rattle.node_core.specs.State.{NodeState}
use Rattle.world_core.specs.Order.{Fleet, world_at, end_rows}

-- the rows below a cycle, and the last ones where it is the limit
abbrev pub rows_upto : Fleet NodeState Row → ℕ → List Row
rows_upto f c = (world_at f c).rows ++ (if c == f.topo.limit then end_rows f else [])
