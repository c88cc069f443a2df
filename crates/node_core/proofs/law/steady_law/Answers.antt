use Rattle.node_core.proofs.Steady.{steady, steady_gap}
use Rattle.node_core.proofs.law.steady_law.Goals as goal

pub returns : goal.returns
returns c = (steady, steady_gap)
