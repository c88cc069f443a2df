use Rattle.checkpoint_text.proofs.Bounded.{if_can_resume}
use Rattle.checkpoint_text.proofs.reading.read_parts.Goals as goal

pub returns-clause-fit : goal.returns-clause-fit
returns-clause-fit c = if_can_resume c.args.scenario.now _ _ (rw c.lawful_topo.ensures.value at c.read.ensures.found)
