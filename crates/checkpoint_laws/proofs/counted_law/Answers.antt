use Rattle.std.proofs.Common.{◌≤◌, arith}
use Rattle.node_runner.proofs.Accepted.{is_scenario}
use Rattle.node_laws.proofs.Images.{images_are}
use Rattle.checkpoint_laws.proofs.Kept.{counted}
use Rattle.checkpoint_laws.proofs.counted_law.Goals as goal

pub returns : goal.returns
returns g = λ sc c d is later last. counted sc c (is_scenario sc is) (images_are sc is) (omega (arith, later, last)) d later last
