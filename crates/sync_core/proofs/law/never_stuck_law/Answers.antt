use Rattle.sync_core.proofs.Going.{may_go_on, may_sample}
use Rattle.sync_core.proofs.law.never_stuck_law.Goals as goal

pub returns-clause-sample : goal.returns-clause-sample
returns-clause-sample c = may_sample

pub returns-clause-goes_on : goal.returns-clause-goes_on
returns-clause-goes_on c = may_go_on
