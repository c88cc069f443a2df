use Rattle.node_runner.proofs.Accepted.{is_scenario}
use Rattle.node_laws.proofs.Images.{images_are}
use Rattle.node_laws.proofs.Restores.{saved}
use Rattle.node_laws.proofs.saved_law.Goals as goal

pub returns : goal.returns
returns c = λ sc k t is late. saved sc k t (is_scenario sc is) (images_are sc is) late
