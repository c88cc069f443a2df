use Rattle.run_reports.proofs.Told.{told_run}
use Rattle.run_reports.proofs.law.sends_law.Goals as goal

pub returns : goal.returns
returns c = told_run
