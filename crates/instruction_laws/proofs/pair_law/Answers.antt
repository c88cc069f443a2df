use Rattle.avr_core.specs.ArithTable.{effect}
use Rattle.data_space.specs.Core.{pair_at}
use Rattle.instruction_laws.proofs.Constants.{carries, compared, differs, half_of_difference, half_of_sum, sums}
use Rattle.instruction_laws.proofs.pair_law.Goals as goal

pub returns-clause-sum : goal.returns-clause-sum
unfolding effect
returns-clause-sum c = λ d k cpu core below. sums d cpu core below k

pub returns-clause-carry : goal.returns-clause-carry
unfolding effect
returns-clause-carry c = λ d k cpu below. carries d cpu below k

pub returns-clause-difference : goal.returns-clause-difference
unfolding effect
returns-clause-difference c = λ d k cpu core below. differs d cpu core below k

pub returns-clause-compared : goal.returns-clause-compared
unfolding effect
returns-clause-compared c = λ d k cpu core below small. compared d cpu core below k small

pub returns-clause-half_after_sum : goal.returns-clause-half_after_sum
unfolding effect
returns-clause-half_after_sum c = λ d k cpu. half_of_sum (pair_at d cpu) k cpu.sreg

pub returns-clause-half_after_difference : goal.returns-clause-half_after_difference
unfolding effect
returns-clause-half_after_difference c = λ d k cpu. half_of_difference (pair_at d cpu) k cpu.sreg
