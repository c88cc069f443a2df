use Rattle.avr_core.specs.ArithShapes.{adds}
use Rattle.avr_core.specs.ArithTable.{effect}
use Rattle.instruction_laws.proofs.Pairs.{carries, sums}
use Rattle.instruction_laws.proofs.sum_law.Goals as goal

pub returns-clause-sum : goal.returns-clause-sum
unfolding effect adds
returns-clause-sum c = sums

pub returns-clause-carry : goal.returns-clause-carry
unfolding effect adds
returns-clause-carry c = carries
