use Rattle.std.proofs.Common.{take}
use Rattle.air_base.specs.declared.air.Ask.{Ask}
use Rattle.world_core.specs.FirstFault.{KeepsBelow}
use Rattle.world_core.specs.Lawful.{IsNextAsk}
use Rattle.list_world.proofs.NextEntry.{IsFree}
use Rattle.list_world.proofs.laws.ask_fault.Given as goal

abbrev pub invariant-loop-place : goal.invariant-loop-place
invariant-loop-place l = record {
  free : IsFree (λ (x : Ask). x.node) (λ x. x.cycle) l.topo 1 l.free (take l.place l.asks);
  kept : KeepsBelow (IsNextAsk l.topo) l.asks l.place;
}
