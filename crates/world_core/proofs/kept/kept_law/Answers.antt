use Rattle.std.proofs.Common.{sym, ◌∙◌}
use Rattle.world_core.specs.Posted.{posted}
use Rattle.world_core.proofs.Final.{heard_kept, heard_final}
use Rattle.world_core.proofs.Counts.{posted_is}
use Rattle.world_core.proofs.kept.kept_law.Goals as goal

pub returns : goal.returns
returns c w f sent xs j s law post h reached = heard_kept w f sent xs j s law post h reached ∙ sym (heard_final w sent (posted w sent) j s law (posted_is w sent law) reached)
