use Rattle.world_core.proofs.Laws.{lawful}
use Rattle.world_core.proofs.global.lawful_law.Goals as goal

pub returns : goal.returns
returns g c = λ f ok. lawful f ok
