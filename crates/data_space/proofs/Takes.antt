-- An instruction that ends takes a cycle or more, whatever its accesses give.
use Rattle.std.proofs.Common.{◌≤◌}
use Rattle.std.specs.Prelude.{IfOk, Result, Ok, Err}
use Rattle.avr_base.specs.declared.stop.StopCause.{StopCause}
use Rattle.data_space.specs.declared.cpu.Cpu.{Cpu}
use Rattle.data_space.specs.Space.{Access}
use Rattle.data_space.specs.Sequence.{Outcome, then_do}

abbrev pub Takes : {B : Type 0} → Outcome B → Type 0
Takes outcome = IfOk outcome.result (λ d. 1 ≤ d.cycles)

pub then_takes : {R B : Type 0} (a : Access R B) (r : Result R StopCause) (rest : R → Cpu → B → Outcome B) → ((value : R) (cpu : Cpu) (bus : B) → Takes (rest value cpu bus)) → Takes (then_do a r rest)
then_takes a (Ok value) rest k = k value a.cpu a.bus
then_takes a (Err cause) rest k = tt
