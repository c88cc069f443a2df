use Rattle.std.proofs.lemmas.List.{get_or-replicate}
use Rattle.world_core.proofs.ways.no_places.Goals as goal

pub returns : goal.returns
returns c = λ k lt. get_or-replicate 64 k 0 0 lt
