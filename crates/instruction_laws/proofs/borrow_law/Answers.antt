use Rattle.std.proofs.Common.{false, true}
use Rattle.avr_core.specs.ArithShapes.{carry, compares, compares_with_carry, subtracts, subtracts_with_carry}
use Rattle.avr_core.specs.ArithTable.{effect}
use Rattle.instruction_laws.specs.Branches.{reg}
use Rattle.instruction_laws.proofs.Carried.{difference, half_difference}
use Rattle.instruction_laws.proofs.borrow_law.Goals as goal

pub returns-clause-subtract : goal.returns-clause-subtract
unfolding effect subtracts
returns-clause-subtract c = λ d r cpu. record {
  bytes = difference (reg d cpu) (reg r cpu) false false cpu.sreg;
  halves = half_difference (reg d cpu) (reg r cpu) false false cpu.sreg;
}

pub returns-clause-subtract_constant : goal.returns-clause-subtract_constant
unfolding effect subtracts
returns-clause-subtract_constant c = λ d k cpu. record {
  bytes = difference (reg d cpu) k false false cpu.sreg;
  halves = half_difference (reg d cpu) k false false cpu.sreg;
}

pub returns-clause-compare : goal.returns-clause-compare
unfolding effect compares
returns-clause-compare c = λ d r cpu. record {
  bytes = difference (reg d cpu) (reg r cpu) false false cpu.sreg;
  halves = half_difference (reg d cpu) (reg r cpu) false false cpu.sreg;
}

pub returns-clause-compare_constant : goal.returns-clause-compare_constant
unfolding effect compares
returns-clause-compare_constant c = λ d k cpu. record {
  bytes = difference (reg d cpu) k false false cpu.sreg;
  halves = half_difference (reg d cpu) k false false cpu.sreg;
}

pub returns-clause-with_borrow : goal.returns-clause-with_borrow
unfolding effect subtracts_with_carry
returns-clause-with_borrow c = λ d r cpu. record {
  bytes = difference (reg d cpu) (reg r cpu) (carry cpu) true cpu.sreg;
  halves = half_difference (reg d cpu) (reg r cpu) (carry cpu) true cpu.sreg;
}

pub returns-clause-constant_with_borrow : goal.returns-clause-constant_with_borrow
unfolding effect subtracts_with_carry
returns-clause-constant_with_borrow c = λ d k cpu. record {
  bytes = difference (reg d cpu) k (carry cpu) true cpu.sreg;
  halves = half_difference (reg d cpu) k (carry cpu) true cpu.sreg;
}

pub returns-clause-compare_with_borrow : goal.returns-clause-compare_with_borrow
unfolding effect compares_with_carry
returns-clause-compare_with_borrow c = λ d r cpu. record {
  bytes = difference (reg d cpu) (reg r cpu) (carry cpu) true cpu.sreg;
  halves = half_difference (reg d cpu) (reg r cpu) (carry cpu) true cpu.sreg;
}

pub returns-clause-negate : goal.returns-clause-negate
unfolding effect
returns-clause-negate c = λ d cpu. record {
  bytes = difference 0 (reg d cpu) false false cpu.sreg;
  halves = half_difference 0 (reg d cpu) false false cpu.sreg;
}
