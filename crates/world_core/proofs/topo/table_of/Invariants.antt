use Rattle.std.proofs.Common.{take}
use Rattle.world_core.specs.FirstFault.{KeepsBelow}
use Rattle.world_core.specs.Topology.{IsNewLink}
use Rattle.world_core.specs.LinkTable.{IsTableOf}
use Rattle.world_core.proofs.topo.table_of.Given as goal

abbrev pub invariant-loop-place : goal.invariant-loop-place
invariant-loop-place l = record {
  kept : KeepsBelow IsNewLink l.links l.place;
  table : IsTableOf (take l.place l.links) l.table.rows;
}
