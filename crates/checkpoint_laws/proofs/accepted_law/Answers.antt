use Rattle.node_runner.proofs.Accepted.{is_scenario}
use Rattle.node_laws.proofs.Images.{images_are}
use Rattle.checkpoint_laws.proofs.Accepted.{accepted}
use Rattle.checkpoint_laws.proofs.accepted_law.Goals as goal

pub returns : goal.returns
returns g = λ sc c is cut. accepted sc c (is_scenario sc is) (images_are sc is) cut
