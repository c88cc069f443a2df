use Rattle.world_core.proofs.Cuts.{needed_from, needed_hears}
use Rattle.world_core.proofs.kept.needed_law.Goals as goal

pub returns : goal.returns
returns c t k j s law = ((λ e. needed_hears t k j s law e), (λ h. needed_from t k j s h))
