use Rattle.std.proofs.Common.{◌≡◌, ℕ, List, take}
use Rattle.std.specs.List.{All}
use Rattle.neighbour_sync.specs.Loads.{looked, IsReached}
use Rattle.neighbour_sync.specs.Looks.{IsSeenPast}
use Rattle.neighbour_sync.proofs.loading.first_behind.Given as goal

abbrev pub invariant-loop-from : goal.invariant-loop-from
invariant-loop-from g l = record {
  looks : (more : List (ℕ × ℕ)) × (l.seat ≡ looked l.fn.seat more) × All (IsSeenPast l.fn.seat.world l.node l.cycle more) (take l.from-index l.from-items);
  reached : All (IsReached l.fn.seat.world l.fn.seat.sent l.node l.cycle) (take l.from-index l.from-items);
}
