use Rattle.std.proofs.Common.{arith}
use Rattle.sync_core.proofs.Waiting.{none_behind}
use Rattle.sync_core.proofs.behind.first_behind.Goals as goal

pub returns-clause-first : goal.returns-clause-first
returns-clause-first c = none_behind c.args.topo.now c.args.clocks.now c.args.node c.args.cycle c.nodes-other-end.ensures.lawful (λ m lt. c.loop-other.invariant m (omega arith))
