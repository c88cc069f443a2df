use Rattle.std.proofs.Common.{refl, arith}
use Rattle.node_core.proofs.Rounds.{none_at_all}
use Rattle.node_core.proofs.machine.Machine.leap.Goals as goal

pub returns-in_default : goal.returns-in_default
returns-in_default c =
    let r = c.requires in record { sprinted = none_at_all c.args.cycle c.args.self.now c.args.self.now r.may refl; others = refl; lines = refl; flags = refl; within = omega (arith, r.within) }
