use Rattle.std.proofs.Common.{◌≡◌, length}
use Rattle.world_core.specs.NeighbourTable.{AreEntered}
use Rattle.world_core.proofs.neighbours.NeighbourTable.of.Given as goal

abbrev pub invariant-loop-to : goal.invariant-loop-to
invariant-loop-to l = AreEntered l.table.rows l.nodes l.to l.rows × (length l.rows ≡ 64)
