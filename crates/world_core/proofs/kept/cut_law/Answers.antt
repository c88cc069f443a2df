use Rattle.world_core.proofs.Cuts.{cut_keeps}
use Rattle.world_core.proofs.kept.cut_law.Goals as goal

pub returns : goal.returns
returns c = cut_keeps
