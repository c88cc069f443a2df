use Rattle.std.proofs.Common.{take}
use Rattle.air_base.specs.declared.air.Send.{Send}
use Rattle.world_core.specs.FirstFault.{KeepsBelow}
use Rattle.world_core.specs.Lawful.{IsNextSend}
use Rattle.list_world.proofs.NextEntry.{IsFree}
use Rattle.list_world.proofs.laws.send_fault.Given as goal

abbrev pub invariant-loop-place : goal.invariant-loop-place
invariant-loop-place l = record {
  free : IsFree (λ (x : Send). x.node) (λ x. x.cycle) l.topo l.topo.byte_time l.free (take l.place l.sends);
  kept : KeepsBelow (IsNextSend l.topo) l.sends l.place;
}
