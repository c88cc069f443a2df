use Rattle.headline_law.proofs.Composed.{for_good_in, order_in}
use Rattle.headline_law.proofs.order_gives_each_sample.Goals as goal

pub returns-clause-order : goal.returns-clause-order
returns-clause-order c = order_in

pub returns-clause-for_good : goal.returns-clause-for_good
returns-clause-for_good c = for_good_in
