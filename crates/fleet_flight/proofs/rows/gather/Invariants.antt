use Rattle.std.proofs.Common.{◌≡◌}
use Rattle.air_base.specs.NodeRun.{Timed}
use Rattle.node_core.specs.State.{NodeState}
use Rattle.node_core.specs.declared.row.Row.{Row}
use Rattle.fleet_flight.specs.Paused.{rows_of}
use Rattle.fleet_flight.proofs.EachNode.{TakenSo}
use Rattle.fleet_flight.proofs.rows.gather.Given as goal

abbrev pub invariant-loop-k : goal.invariant-loop-k
invariant-loop-k l = record {
  taken : TakenSo l.fn.nodes.items l.k l.nodes.items;
  rows : (d : Timed NodeState Row) → l.rows.items ≡ rows_of l.k l.fn.nodes.items d;
}
