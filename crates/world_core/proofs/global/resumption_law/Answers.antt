use Rattle.world_core.proofs.Resumed.{resumes}
use Rattle.world_core.proofs.global.resumption_law.Goals as goal

pub returns : goal.returns
returns g c = λ f m n. resumes f m n
