use Rattle.checkpoint_text.proofs.Bounded.{has_node}
use Rattle.checkpoint_text.proofs.law.fit_law.Goals as goal

pub returns : goal.returns
returns c = λ sc cycle n fit bytes. has_node sc cycle n fit bytes
