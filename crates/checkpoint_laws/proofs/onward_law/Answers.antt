use Rattle.node_runner.proofs.Accepted.{is_scenario}
use Rattle.node_laws.proofs.Images.{images_are}
use Rattle.checkpoint_laws.proofs.Kept.{goes_on, read_again}
use Rattle.checkpoint_laws.proofs.onward_law.Goals as goal

pub returns-clause-nodes : goal.returns-clause-nodes
returns-clause-nodes g = λ sc c k is lim lt. read_again sc c (is_scenario sc is) (images_are sc is) lim k lt

pub returns-clause-rows : goal.returns-clause-rows
returns-clause-rows g = λ sc c is lim. goes_on sc c (is_scenario sc is) (images_are sc is) lim
