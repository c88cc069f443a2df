use Rattle.node_monitors.proofs.Whole.{account-whole}
use Rattle.node_monitors.proofs.laws.whole_law.Goals as goal

pub returns : goal.returns
returns c = account-whole
