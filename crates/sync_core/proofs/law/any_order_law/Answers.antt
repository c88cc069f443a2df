use Rattle.world_core.specs.Steps.{opening}
use Rattle.sync_core.proofs.Inductive.{opens}
use Rattle.sync_core.proofs.Moves.{any_order, for_good, moves_keep}
use Rattle.sync_core.proofs.law.any_order_law.Goals as goal

pub returns-clause-consistent : goal.returns-clause-consistent
returns-clause-consistent c = λ w moves law may. moves_keep (opening w) moves (opens w law) may

pub returns-clause-for_good : goal.returns-clause-for_good
returns-clause-for_good c = any_order

pub returns-clause-keeps : goal.returns-clause-keeps
returns-clause-keeps c = moves_keep

pub returns-clause-from_any : goal.returns-clause-from_any
returns-clause-from_any c = for_good
