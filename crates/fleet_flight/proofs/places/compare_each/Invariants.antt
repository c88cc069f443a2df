use Rattle.std.proofs.Common.{◌≡◌, ℕ, List, length}
use Rattle.node_places.specs.declared.Change.{Change}
use Rattle.fleet_flight.specs.Shadows.{Compared}
use Rattle.fleet_flight.proofs.places.compare_each.Given as goal

abbrev pub invariant-loop-k : goal.invariant-loop-k
invariant-loop-k l = record {
  count : length l.last.items ≡ length l.places;
  goes : (xs : List ℕ) (cs : List Change) → Compared l.places xs l.begun l.cycle l.node.state cs l.from l.fn.last.items l.fn.changes.items → Compared l.places xs l.begun l.cycle l.node.state cs l.k l.last.items l.changes.items;
}
