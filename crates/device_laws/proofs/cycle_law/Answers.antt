use Rattle.device_laws.proofs.Boards.{answered_kept, begun_kept, leapt_kept}
use Rattle.device_laws.proofs.cycle_law.Goals as goal

pub returns-clause-begun : goal.returns-clause-begun
returns-clause-begun c = begun_kept

pub returns-clause-answered : goal.returns-clause-answered
returns-clause-answered c = answered_kept

pub returns-clause-leapt : goal.returns-clause-leapt
returns-clause-leapt c = leapt_kept
