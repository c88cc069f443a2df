use Rattle.world_core.proofs.Cuts.{kept_part}
use Rattle.world_core.proofs.kept.part_law.Goals as goal

pub returns : goal.returns
returns c = kept_part
