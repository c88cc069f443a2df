use Rattle.instruction_laws.proofs.Returns.{push_pop}
use Rattle.instruction_laws.proofs.stack_law.Goals as goal

pub returns : goal.returns
returns g c = push_pop
