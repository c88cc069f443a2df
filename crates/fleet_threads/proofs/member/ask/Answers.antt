use Rattle.fleet_threads.proofs.Steps.{tried_once}
use Rattle.fleet_threads.proofs.member.ask.Goals as goal

pub returns-in-Tries-clause-once : goal.returns-in-Tries-clause-once
returns-in-Tries-clause-once g c = λ e. tried_once g.N.Session.world _ _ _ _ c.try_sample.ensures
