use Rattle.air_facts.specs.ByNode.{NodesPostedFor}
use Rattle.air_facts.proofs.plain.is_all_posted.Given as goal

abbrev pub invariant-loop-from : goal.invariant-loop-from
invariant-loop-from l = NodesPostedFor l.world l.sent l.from l.node l.cycle
