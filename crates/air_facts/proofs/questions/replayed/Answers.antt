use Rattle.std.proofs.Common.{◌∙◌, ap}
use Rattle.world_core.specs.Consistent.{AirState}
use Rattle.world_core.specs.Steps.{opening}
use Rattle.air_facts.proofs.Worlds.{world_stays}
use Rattle.air_facts.proofs.questions.replayed.Goals as goal

pub returns-in-Ok : goal.returns-in-Ok
returns-in-Ok c = ap (λ (a : AirState). a.world) c.in-Ok.ensures.replayed.1 ∙ world_stays (opening c.args.world) c.args.steps.now
