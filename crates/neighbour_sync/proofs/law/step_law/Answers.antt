use Rattle.neighbour_sync.proofs.Stepping.{cut, loaded, others, posted, raised, sampled}
use Rattle.neighbour_sync.proofs.law.step_law.Goals as goal

pub returns-clause-raised : goal.returns-clause-raised
returns-clause-raised c = raised

pub returns-clause-posted : goal.returns-clause-posted
returns-clause-posted c = posted

pub returns-clause-loaded : goal.returns-clause-loaded
returns-clause-loaded c = loaded

pub returns-clause-sampled : goal.returns-clause-sampled
returns-clause-sampled c = sampled

pub returns-clause-cut : goal.returns-clause-cut
returns-clause-cut c = cut

pub returns-clause-others : goal.returns-clause-others
returns-clause-others c = others
