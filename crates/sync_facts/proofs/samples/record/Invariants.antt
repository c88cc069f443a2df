use Rattle.std.proofs.Common.{◌≡◌, ◌<◌, ◌*◌, length}
use Rattle.std.specs.List.{All}
use Rattle.world_core.specs.Topology.{IsInside}
use Rattle.sync_facts.proofs.samples.record.Given as goal

abbrev pub invariant-loop-number : goal.invariant-loop-number
invariant-loop-number l = record {
  inside : All (λ x. IsInside l.topo x.node x.cycle) l.log.sends;
  below : All (λ x. x.cycle < 16 * l.number) l.log.sends;
  count : length l.log.sends ≡ l.number;
  room : l.log.room ≡ l.fn.sends;
}
