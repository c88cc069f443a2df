use Rattle.node_core.proofs.Sprints.{stands}
use Rattle.node_core.proofs.machine.Machine.sprint.Goals as goal

pub returns-in_default-clause-sprinted : goal.returns-in_default-clause-sprinted
returns-in_default-clause-sprinted c =
    let r = c.requires in
    stands c.args.cycle c.args.self.now r.may.going r.may.free r.may.awake r.may.now r.may.few
