use Rattle.std.proofs.Common.{◌≡◌, ℕ, List, take}
use Rattle.std.specs.List.{All}
use Rattle.neighbour_sync.specs.Looks.{peeked, IsSeenPast}
use Rattle.neighbour_sync.proofs.looking.first_behind.Given as goal

abbrev pub invariant-loop-from : goal.invariant-loop-from
invariant-loop-from g l =
    (more : List (ℕ × ℕ)) × (l.seat ≡ peeked l.fn.seat more) × All (IsSeenPast l.fn.seat.world l.fn.seat.number l.cycle more) (take l.from-index l.from-items)
