use Rattle.std.proofs.Common.{ℕ, ◌<◌, take}
use Rattle.std.specs.List.{All}
use Rattle.air_facts.specs.ByNode.{NodeAgrees, SampleAgrees}
use Rattle.air_facts.proofs.plain.is_consistent.Given as goal

abbrev pub invariant-loop-node : goal.invariant-loop-node
invariant-loop-node l = (k : ℕ) → k < l.node → NodeAgrees l.world l.floor l.clocks l.sent l.sends k

abbrev pub invariant-loop-ask : goal.invariant-loop-ask
invariant-loop-ask l = All (SampleAgrees l.world l.floor l.sent) (take l.ask-index l.samples)
