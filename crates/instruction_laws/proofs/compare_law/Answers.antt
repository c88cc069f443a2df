use Rattle.avr_core.specs.ArithShapes.{compares}
use Rattle.avr_core.specs.ArithTable.{effect}
use Rattle.instruction_laws.specs.Branches.{reg}
use Rattle.instruction_laws.proofs.Compared.{lower, equal, less}
use Rattle.instruction_laws.proofs.compare_law.Goals as goal

pub returns-clause-registers : goal.returns-clause-registers
unfolding effect compares
returns-clause-registers c = λ d r cpu h. record {
  lower = lower (reg d cpu) (reg r cpu) cpu.sreg h.0 h.1;
  equal = equal (reg d cpu) (reg r cpu) cpu.sreg h.0 h.1;
  less = less (reg d cpu) (reg r cpu) cpu.sreg h.0 h.1;
}

pub returns-clause-constant : goal.returns-clause-constant
unfolding effect compares
returns-clause-constant c = λ d k cpu h. record {
  lower = lower (reg d cpu) k cpu.sreg h.0 h.1;
  equal = equal (reg d cpu) k cpu.sreg h.0 h.1;
  less = less (reg d cpu) k cpu.sreg h.0 h.1;
}
