use Rattle.std.proofs.Common.{◌≡◌, ℕ, List, [], ◌∷◌}
use Rattle.neighbour_sync.specs.Looks.{looked}
use Rattle.neighbour_sync.proofs.steps.try_once.Given as goal

abbrev pub invariant-loop : goal.invariant-loop
invariant-loop g l = record {
  next : (goal.iterator-loop g).can_next l.iterator';
  finite : (goal.iterator-loop g).is_finite l.iterator';
  looks : (more : List (ℕ × ℕ)) × (l.seat ≡ looked l.fn.seat more (0 ∷ []));
}
