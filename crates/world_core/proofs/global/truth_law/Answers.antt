use Rattle.world_core.proofs.Alone.{hears_truth}
use Rattle.world_core.proofs.global.truth_law.Goals as goal

pub returns : goal.returns
returns g c = λ f k t ok g h. hears_truth f ok k t g h
