use Rattle.std.proofs.Common.{◌≡◌, ◌≤◌}
use Rattle.world_core.specs.NeighbourTable.{listed, entered}
use Rattle.world_core.proofs.neighbours.heard_by.Given as goal

abbrev pub invariant-loop-from : goal.invariant-loop-from
invariant-loop-from l = (listed l.list ≡ entered l.table.rows l.to l.from) × (l.list.count ≤ l.from)
