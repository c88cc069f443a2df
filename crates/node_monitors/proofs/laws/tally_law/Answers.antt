use Rattle.node_monitors.proofs.Tallies.{tally-account}
use Rattle.node_monitors.proofs.laws.tally_law.Goals as goal

pub returns : goal.returns
returns c = tally-account
