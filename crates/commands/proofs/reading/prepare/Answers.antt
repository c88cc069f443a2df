use Rattle.commands.proofs.Statuses.{asked_prepares, refused_prepares, short_prepares}
use Rattle.commands.proofs.reading.prepare.Goals as goal

pub returns-in-Ok-Some : goal.returns-in-Ok-Some
returns-in-Ok-Some g c =
    asked_prepares _ _ _ c.in-Ok-Some.command _ _ _ _ _ c.read_job.ensures.held (rw c.in-Ok-Some.field-0-is at c.in-Ok-Some.ensures.asked) c.read_job.ensures.read

pub returns-in-Ok-None : goal.returns-in-Ok-None
returns-in-Ok-None g c = refused_prepares _ _ _ _ _ _ (rw c.in-Ok-None.field-0-is at c.in-Ok-None.ensures.asked) c.tell.ensures

-- `clap` sees accepted words only
pub returns-in-Err : goal.returns-in-Err
returns-in-Err g c = short_prepares _ _ _ _ _ _ c.in-Err.ensures.accepted c.tell-in-Err.ensures
