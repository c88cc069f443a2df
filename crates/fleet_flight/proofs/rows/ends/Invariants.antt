use Rattle.std.proofs.Common.{◌≡◌}
use Rattle.air_base.specs.NodeRun.{Timed}
use Rattle.node_core.specs.State.{NodeState}
use Rattle.node_core.specs.declared.row.Row.{Row}
use Rattle.fleet_flight.specs.Paused.{ends_of}
use Rattle.fleet_flight.proofs.rows.ends.Given as goal

abbrev pub invariant-loop-k : goal.invariant-loop-k
invariant-loop-k l = (d : Timed NodeState Row) → l.rows.items ≡ ends_of l.limit l.k l.nodes d
