use Rattle.std.proofs.Common.{◌≡◌, take}
use Rattle.air_base.specs.Each.{each_below}
use Rattle.world_core.specs.Sends.{sends_of}
use Rattle.world_core.specs.Posted.{sent_of}
use Rattle.air_facts.proofs.plain.posted_of.Given as goal

abbrev pub invariant-loop-node : goal.invariant-loop-node
invariant-loop-node l = l.all.items ≡ each_below l.node (λ k. take (sent_of l.sent k) (sends_of k l.world.sends))
