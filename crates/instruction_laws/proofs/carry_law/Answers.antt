use Rattle.std.proofs.Common.{false}
use Rattle.avr_core.specs.ArithShapes.{adds, carry}
use Rattle.avr_core.specs.ArithTable.{effect}
use Rattle.instruction_laws.specs.Branches.{reg}
use Rattle.instruction_laws.proofs.Carried.{half_sum, sum}
use Rattle.instruction_laws.proofs.carry_law.Goals as goal

pub returns-clause-add : goal.returns-clause-add
unfolding effect adds
returns-clause-add c = λ d r cpu. record {
  bytes = sum (reg d cpu) (reg r cpu) false cpu.sreg;
  halves = half_sum (reg d cpu) (reg r cpu) false cpu.sreg;
}

pub returns-clause-add_with_carry : goal.returns-clause-add_with_carry
unfolding effect adds
returns-clause-add_with_carry c = λ d r cpu. record {
  bytes = sum (reg d cpu) (reg r cpu) (carry cpu) cpu.sreg;
  halves = half_sum (reg d cpu) (reg r cpu) (carry cpu) cpu.sreg;
}
