use Rattle.std.proofs.Common.{refl}
use Rattle.neighbour_sync.proofs.Shown.{at_first, consistent}
use Rattle.neighbour_sync.proofs.law.state_law.Goals as goal

pub returns-clause-first : goal.returns-clause-first
returns-clause-first c = at_first

pub returns-clause-opening : goal.returns-clause-opening
returns-clause-opening c = λ w z. refl

pub returns-clause-consistent : goal.returns-clause-consistent
returns-clause-consistent c = consistent
