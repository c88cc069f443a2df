use Rattle.node_monitors.proofs.Accounts.{account_that_matters, account_of_own}
use Rattle.node_monitors.proofs.needed.matters_law.Goals as goal

pub returns : goal.returns
returns c = record { matters = account_that_matters; own = account_of_own }
