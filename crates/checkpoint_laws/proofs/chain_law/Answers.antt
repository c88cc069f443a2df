use Rattle.node_runner.proofs.Accepted.{is_scenario}
use Rattle.node_laws.proofs.Images.{images_are}
use Rattle.checkpoint_laws.proofs.Chains.{rows_are, states_behind}
use Rattle.checkpoint_laws.proofs.chain_law.Goals as goal

pub returns-clause-states : goal.returns-clause-states
returns-clause-states g = λ sc c ns is lim. states_behind sc (is_scenario sc is) (images_are sc is) c ns lim

pub returns-clause-rows : goal.returns-clause-rows
returns-clause-rows g = λ sc c ns is lim. rows_are sc (is_scenario sc is) (images_are sc is) c ns lim
