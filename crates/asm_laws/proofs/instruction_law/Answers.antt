use Rattle.asm_laws.proofs.Doubles.{same_op, two_back}
use Rattle.asm_laws.proofs.Singles.{one_back}
use Rattle.asm_laws.proofs.instruction_law.Goals as goal

pub returns-clause-one : goal.returns-clause-one
returns-clause-one c = one_back

pub returns-clause-two : goal.returns-clause-two
returns-clause-two c = two_back

pub returns-clause-same : goal.returns-clause-same
returns-clause-same c = same_op
