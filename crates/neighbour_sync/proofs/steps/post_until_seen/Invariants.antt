use Rattle.std.proofs.Common.{◌≡◌, ◌≤◌}
use Rattle.neighbour_sync.specs.Seats.{node_told}
use Rattle.neighbour_sync.proofs.steps.post_until_seen.Given as goal

abbrev pub invariant-loop : goal.invariant-loop
invariant-loop g l = record {
  next : (goal.iterator-loop g).can_next l.iterator';
  finite : (goal.iterator-loop g).is_finite l.iterator';
  same : l.seat ≡ node_told l.fn.seat l.seat.told;
  rises : l.fn.seat.told ≤ l.seat.told;
}
