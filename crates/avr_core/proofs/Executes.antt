-- The effect of an instruction, by its class: one that ends takes a cycle or more.
use Rattle.std.proofs.Common.{◌≡◌, ◌≤◌, ℕ, Bool, true, false, List, refl, sym, subst}
use Rattle.std.proofs.lemmas.Bool.{false≢true}
use Rattle.std.specs.Prelude.{Result, IfOk, IfSome, Option, Some}
use Rattle.avr_base.specs.declared.stop.StopCause.{StopCause}
use Rattle.avr_decoder.specs.Class.{class_of}
use Rattle.avr_decoder.specs.declared.op.Class.{Class}
use Rattle.avr_decoder.specs.declared.op.Class.TheVariants as class
use Rattle.avr_decoder.specs.declared.op.Op.{Op}
use Rattle.avr_decoder.specs.declared.op.Op.TheVariants as op
use Rattle.avr_core.proofs.FlowTakes.{flow_takes}
use Rattle.avr_core.proofs.MemoryTakes.{memory_takes}
use Rattle.data_space.specs.declared.bus.Done.{Done}
use Rattle.data_space.specs.declared.cpu.Cpu.{Cpu}
use Rattle.data_space.specs.Sequence.{Outcome}
use Rattle.avr_core.specs.Execute.{is_sleep, executed_over, executed_over_by, is_plain}
use Rattle.avr_core.proofs.Takes.{arith_takes}

-- a plain instruction does not sleep
pub plain_awake : (o : Op) → is_plain o ≡ true → is_sleep o ≡ false
plain_awake op.Sleep e = absurd (false≢true e)
plain_awake _ e = refl

-- whether an instruction of this class works on registers and flags alone
abbrev pub is_arith : Class → Bool
is_arith class.Arith = true
is_arith _ = false

pub arith_awake : (o : Op) → is_arith (class_of o) ≡ true → is_sleep o ≡ false
arith_awake op.Sleep e = absurd (false≢true e)
arith_awake _ e = refl

abbrev pub Takes : Result Done StopCause → Type 0
Takes r = IfOk r (λ d. 1 ≤ d.cycles)

module _ {B : Type 0} (get : B → ℕ → Result (ℕ × B) StopCause) (put : B → ℕ → ℕ → Result B StopCause) where
  takes_by : (k : Class) (flash : List ℕ) (o : Op) (cpu : Cpu) (bus : B) → Takes (executed_over_by get put k flash o cpu bus).result
  takes_by class.Arith flash o cpu bus = arith_takes o
  takes_by class.Flow flash o cpu bus = flow_takes get put flash o cpu bus
  takes_by class.Memory flash o cpu bus = memory_takes get put flash o cpu bus
  takes_by (class.Halting cause) flash o cpu bus = tt

  executed_takes : (flash : List ℕ) (o : Op) (cpu : Cpu) (bus : B) → Takes (executed_over get put flash o cpu bus).result
  unfolding executed_over
  executed_takes flash o cpu bus = takes_by (class_of o) flash o cpu bus

  pub takes : (a : Outcome B) (flash : List ℕ) (o : Op) (cpu : Cpu) (bus : B) → a ≡ executed_over get put flash o cpu bus → Takes a.result
  takes a flash o cpu bus e = subst (λ (x : Outcome B). Takes x.result) (sym e) (executed_takes flash o cpu bus)

  -- of a result that is there
  pub some_takes : (x : Option (Result Done StopCause)) (r : Result Done StopCause) (from to : Cpu) (bus there : B) (flash : List ℕ) (o : Op) → x ≡ Some r
      → IfSome x (λ y. (let a : Outcome B = record { result = y; cpu = to; bus = there } in a ≡ executed_over get put flash o from bus)) → Takes r
  some_takes x r from to bus there flash o is some =
      let left = λ (y : Result Done StopCause). (let a : Outcome B = record { result = y; cpu = to; bus = there } in a ≡ executed_over get put flash o from bus) in
      let e : left r = subst (λ (z : Option (Result Done StopCause)). IfSome z left) is some in
      let a : Outcome B = record { result = r; cpu = to; bus = there } in
      takes a flash o from bus e
