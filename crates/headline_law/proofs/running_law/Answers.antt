use Rattle.headline_law.proofs.Running.{run_may, run_shows, run_state}
use Rattle.headline_law.proofs.running_law.Goals as goal

pub returns-clause-shows : goal.returns-clause-shows
returns-clause-shows c = run_shows

pub returns-clause-allowed : goal.returns-clause-allowed
returns-clause-allowed c = run_may

pub returns-clause-state : goal.returns-clause-state
returns-clause-state c = run_state
