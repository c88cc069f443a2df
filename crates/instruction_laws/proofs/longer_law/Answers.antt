use Rattle.avr_core.specs.ArithShapes.{adds, compares_with_carry, subtracts_with_carry}
use Rattle.avr_core.specs.ArithTable.{effect}
use Rattle.instruction_laws.specs.Branches.{reg}
use Rattle.instruction_laws.proofs.Longer.{longer_below, longer_less, longer_same, longer_sum}
use Rattle.instruction_laws.proofs.longer_law.Goals as goal

pub returns-clause-sum : goal.returns-clause-sum
unfolding effect adds
returns-clause-sum c = λ m a b d r cpu f g e. longer_sum m a b (reg d cpu) (reg r cpu) f g cpu.sreg e

pub returns-clause-difference : goal.returns-clause-difference
unfolding effect subtracts_with_carry
returns-clause-difference c = λ m a b d r cpu f g bytes h. record {
  lower = longer_below m a b (reg d cpu) (reg r cpu) f g cpu.sreg h.below;
  equal = longer_same m a b (reg d cpu) (reg r cpu) f g bytes.0 bytes.1 cpu.sreg h.below h.equal;
  less = longer_less m a b (reg d cpu) (reg r cpu) f g bytes.0 bytes.1 cpu.sreg h.below;
}

pub returns-clause-constant : goal.returns-clause-constant
unfolding effect subtracts_with_carry
returns-clause-constant c = λ m a b d k cpu f g bytes h. record {
  lower = longer_below m a b (reg d cpu) k f g cpu.sreg h.below;
  equal = longer_same m a b (reg d cpu) k f g bytes.0 bytes.1 cpu.sreg h.below h.equal;
  less = longer_less m a b (reg d cpu) k f g bytes.0 bytes.1 cpu.sreg h.below;
}

pub returns-clause-compare : goal.returns-clause-compare
unfolding effect compares_with_carry
returns-clause-compare c = λ m a b d r cpu f g bytes h. record {
  lower = longer_below m a b (reg d cpu) (reg r cpu) f g cpu.sreg h.below;
  equal = longer_same m a b (reg d cpu) (reg r cpu) f g bytes.0 bytes.1 cpu.sreg h.below h.equal;
  less = longer_less m a b (reg d cpu) (reg r cpu) f g bytes.0 bytes.1 cpu.sreg h.below;
}
