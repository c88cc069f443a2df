use Rattle.fleet_threads.proofs.threads.work_unless_refused.Goals as goal

pub returns : goal.returns
returns g c = record { is = c.work.ensures.back.is; number = c.work.ensures.number }
