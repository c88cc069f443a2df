use Rattle.std.proofs.Common.{◌≡◌, ℕ, List}
use Rattle.neighbour_sync.specs.Record.{with_loads}
use Rattle.neighbour_sync.proofs.cutting.cut_when_passed.Given as goal

abbrev pub invariant-loop : goal.invariant-loop
invariant-loop g l = record {
  next : (goal.iterator-loop g).can_next l.iterator';
  finite : (goal.iterator-loop g).is_finite l.iterator';
  waits : (waits : List (ℕ × ℕ)) × (l.air ≡ with_loads l.fn.air waits);
}
