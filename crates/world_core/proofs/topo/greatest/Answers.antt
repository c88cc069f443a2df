use Rattle.std.proofs.Common.{sym, ◌∙◌}
use Rattle.world_core.proofs.Latencies.{greatest_more}
use Rattle.world_core.proofs.topo.greatest.Goals as goal

pub loop-n-preserved : goal.loop-n-preserved
loop-n-preserved c = c.max-most.ensures ∙ sym (greatest_more c.args.own.now c.loop-n.n-index c.args.least c.loop-n.most c.loop-n-test.true c.loop-n.invariant)
