use Rattle.avr_core.specs.ArithShapes.{compares, compares_with_carry, subtracts_with_carry}
use Rattle.avr_core.specs.ArithTable.{effect}
use Rattle.instruction_laws.specs.Branches.{reg}
use Rattle.instruction_laws.proofs.Compared.{words_lower, words_equal, words_less}
use Rattle.instruction_laws.proofs.compare_words_law.Goals as goal

pub returns-clause-registers : goal.returns-clause-registers
unfolding effect compares compares_with_carry
returns-clause-registers c = λ dl dh rl rh cpu low high. record {
  lower = words_lower (reg dl cpu) (reg dh cpu) (reg rl cpu) (reg rh cpu) cpu.sreg low.0 low.1 high.0 high.1;
  equal = words_equal (reg dl cpu) (reg dh cpu) (reg rl cpu) (reg rh cpu) cpu.sreg low.0 low.1 high.0 high.1;
  less = words_less (reg dl cpu) (reg dh cpu) (reg rl cpu) (reg rh cpu) cpu.sreg low.0 low.1 high.0 high.1;
}

pub returns-clause-constant : goal.returns-clause-constant
unfolding effect compares subtracts_with_carry
returns-clause-constant c = λ dl dh kl kh cpu low high. record {
  lower = words_lower (reg dl cpu) (reg dh cpu) kl kh cpu.sreg low.0 low.1 high.0 high.1;
  equal = words_equal (reg dl cpu) (reg dh cpu) kl kh cpu.sreg low.0 low.1 high.0 high.1;
  less = words_less (reg dl cpu) (reg dh cpu) kl kh cpu.sreg low.0 low.1 high.0 high.1;
}
