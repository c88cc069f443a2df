use Rattle.std.proofs.Common.{sym, ◌∙◌}
use Rattle.node_core.proofs.Stills.{arith_still, load_still, steers_still}
use Rattle.node_core.proofs.pace.leaps.is_still.Goals as goal

pub returns-then-is_steering : goal.returns-then-is_steering
returns-then-is_steering c e = steers_still c.args.op.now c.args.bus.now (sym c.is_steering.ensures ∙ c.if-is_steering.true)

pub returns-in-Some : goal.returns-in-Some
returns-in-Some c e = load_still c.args.op.now c.args.bus.now c.in-Some.at c.in-Some.ensures (c.reads_still.ensures e)

pub returns-in-Arith : goal.returns-in-Arith
returns-in-Arith c e = arith_still c.args.op.now c.args.bus.now (sym c.class.ensures ∙ c.in-Arith.is)
