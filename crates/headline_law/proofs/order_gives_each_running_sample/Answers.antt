use Rattle.headline_law.proofs.Composed.{running_for_good, running_order}
use Rattle.headline_law.proofs.order_gives_each_running_sample.Goals as goal

pub returns-clause-order : goal.returns-clause-order
returns-clause-order c = running_order

pub returns-clause-for_good : goal.returns-clause-for_good
returns-clause-for_good c = running_for_good
