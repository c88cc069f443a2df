use Rattle.std.proofs.Common.{◌≡◌, ℕ, ◌<◌, ◌≤◌, true, false}
use Rattle.air_base.specs.NodeRun.{Timed}
use Rattle.node_core.specs.Cycle.{node_kind}
use Rattle.node_core.specs.declared.row.Row.{Row}
use Rattle.node_core.specs.State.{NodeState}
use Rattle.fleet_flight.specs.Paused.{node_in}
use Rattle.fleet_flight.specs.Turns.{is_live}
use Rattle.fleet_flight.proofs.turns.behind.Given as goal

abbrev pub invariant-loop-k : goal.invariant-loop-k
invariant-loop-k l = record {
  none : l.found ≡ false → (j : ℕ) (d : Timed NodeState Row) → j < l.k → is_live node_kind l.end (node_in l.nodes j d) ≡ false;
  some : l.found ≡ true → (l.best < l.k) × ((d : Timed NodeState Row) → is_live node_kind l.end (node_in l.nodes l.best d) ≡ true) × ((d : Timed NodeState Row) → l.lowest ≡ (node_in l.nodes l.best d).cycle)
      × ((j : ℕ) (d : Timed NodeState Row) → j < l.k → is_live node_kind l.end (node_in l.nodes j d) ≡ true → l.lowest ≤ (node_in l.nodes j d).cycle);
}
