use Rattle.std.proofs.Common.{◌≡◌, ℕ, List, replicate}
use Rattle.neighbour_sync.specs.Looks.{looked}
use Rattle.neighbour_sync.proofs.node.NodeAir.sample_when_passed.Given as goal

abbrev pub invariant-loop : goal.invariant-loop
invariant-loop g l = record {
  next : (goal.iterator-loop g).can_next l.iterator';
  finite : (goal.iterator-loop g).is_finite l.iterator';
  tries : (tries : ℕ) × (loads : List (ℕ × ℕ)) × (l.self ≡ looked l.fn.self loads (replicate tries 0));
}
