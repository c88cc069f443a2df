use Rattle.std.proofs.Common.{false, refl}
use Rattle.avr_core.specs.ArithShapes.{subtracts, subtracts_with_carry}
use Rattle.avr_core.specs.ArithTable.{effect}
use Rattle.arith_step.specs.Bytes.{subtracted}
use Rattle.instruction_laws.specs.Branches.{reg}
use Rattle.instruction_laws.proofs.Pairs.{compared, differs}
use Rattle.instruction_laws.proofs.Registers.{put, still}
use Rattle.instruction_laws.proofs.difference_law.Goals as goal

pub returns-clause-registers : goal.returns-clause-registers
unfolding effect subtracts subtracts_with_carry
returns-clause-registers c = λ dl dh rl rh cpu core apart read.
    let low = subtracted (reg dl cpu) (reg rl cpu) false false cpu.sreg in
    differs dl dh (reg rl cpu) (reg rh (put dl low cpu)) (reg rh cpu) cpu core apart (core.bytes rl) (core.bytes rh) (still dl rh low cpu read)

pub returns-clause-compared : goal.returns-clause-compared
unfolding effect subtracts subtracts_with_carry
returns-clause-compared c = λ dl dh rl rh cpu core apart read.
    let low = subtracted (reg dl cpu) (reg rl cpu) false false cpu.sreg in
    compared dl dh (reg rl cpu) (reg rh (put dl low cpu)) (reg rh cpu) cpu core apart (core.bytes rl) (core.bytes rh) (still dl rh low cpu read)

pub returns-clause-constant : goal.returns-clause-constant
unfolding effect subtracts subtracts_with_carry
returns-clause-constant c = λ dl dh kl kh cpu core bytes apart.
    differs dl dh kl kh kh cpu core apart bytes.0 bytes.1 refl
