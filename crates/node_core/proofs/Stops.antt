-- An instruction that stops leaves the program counter as it was, whatever its class.
use Rattle.std.proofs.Common.{◌≡◌, ℕ, List, refl, subst}
use Rattle.std.specs.Prelude.{OnErr, Result, Err}
use Rattle.avr_base.specs.declared.stop.StopCause.{StopCause}
use Rattle.avr_decoder.specs.Class.{class_of}
use Rattle.avr_decoder.specs.declared.op.Class.{Class}
use Rattle.avr_decoder.specs.declared.op.Class.TheVariants as class
use Rattle.avr_decoder.specs.declared.op.Op.{Op}
use Rattle.avr_core.proofs.Stops.{flow_stops, memory_stops}
use Rattle.data_space.specs.declared.bus.Done.{Done}
use Rattle.data_space.specs.declared.cpu.Cpu.{Cpu}
use Rattle.data_space.proofs.Stops.{Stops}
use Rattle.avr_core.specs.Execute.{executed_over, executed_over_by}

module _ {B : Type 0} (get : B → ℕ → Result (ℕ × B) StopCause) (put : B → ℕ → ℕ → Result B StopCause) where
  stops_by : (k : Class) (flash : List ℕ) (o : Op) (cpu : Cpu) (bus : B) → Stops cpu.pc (executed_over_by get put k flash o cpu bus)
  stops_by class.Arith flash o cpu bus = tt
  stops_by class.Flow flash o cpu bus = flow_stops get put flash o cpu bus
  stops_by class.Memory flash o cpu bus = memory_stops get put flash o cpu bus
  stops_by (class.Halting cause) flash o cpu bus = refl

  executed_stops : (flash : List ℕ) (o : Op) (cpu : Cpu) (bus : B) → Stops cpu.pc (executed_over get put flash o cpu bus)
  unfolding executed_over
  executed_stops flash o cpu bus = stops_by (class_of o) flash o cpu bus

  pub stops_there : (flash : List ℕ) (o : Op) (cpu : Cpu) (bus : B) (cause : StopCause) → (executed_over get put flash o cpu bus).result ≡ Err cause → (executed_over get put flash o cpu bus).cpu.pc ≡ cpu.pc
  stops_there flash o cpu bus cause stopped =
      let a = executed_over get put flash o cpu bus in subst (λ (r : Result Done StopCause). OnErr r (a.cpu.pc ≡ cpu.pc)) stopped (executed_stops flash o cpu bus)
