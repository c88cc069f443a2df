use Rattle.std.proofs.Common.{◌≡◌}
use Rattle.neighbour_sync.proofs.opening.node_airs.Given as goal

abbrev pub invariant-loop-seat : goal.invariant-loop-seat
invariant-loop-seat g l = l.nodes.items ≡ l.yielded
