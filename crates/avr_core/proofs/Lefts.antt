-- What a plain instruction leaves, part by part.
use Rattle.std.proofs.Common.{◌≡◌, ℕ, Bool, true, false, List, refl, sym, subst}
use Rattle.std.specs.Prelude.{Result, Option, IfSome, IfNone, is_some}
use Rattle.avr_base.specs.declared.stop.StopCause.{StopCause}
use Rattle.avr_decoder.specs.declared.op.Op.{Op}
use Rattle.data_space.specs.declared.bus.Done.{Done}
use Rattle.data_space.specs.declared.cpu.Cpu.{Cpu}
use Rattle.data_space.specs.Sequence.{Outcome}
use Rattle.avr_core.specs.declared.instructions.After.{After}
use Rattle.avr_core.specs.Execute.{Left, after_at, executed_over, is_plain, left_as, left_by}

abbrev pub Told : {B : Type 0} → Bool → After → Outcome B → Cpu → B → Left B → Type 0
Told {B} b a out from bus l = (l.after ≡ a) × (is_some l.reported ≡ b)
    × IfSome l.reported (λ (y : Result Done StopCause). (let x : Outcome B = record { result = y; cpu = l.cpu; bus = l.bus } in x ≡ out)) × IfNone l.reported ((l.cpu ≡ from) × (l.bus ≡ bus))

told_as : {B : Type 0} (b : Bool) (a : After) (out : Outcome B) (from : Cpu) (bus : B) → Told b a out from bus (left_as b a out from bus)
told_as true a out from bus = (refl, refl, refl, tt)
told_as false a out from bus = (refl, refl, tt, (refl, refl))

pub told : {B : Type 0} (get : B → ℕ → Result (ℕ × B) StopCause) (put : B → ℕ → ℕ → Result B StopCause) (flash : List ℕ) (o : Op) (from : Cpu) (bus : B) (l : Left B) → l ≡ left_by get put flash o from bus
    → Told (is_plain o) (after_at o from) (executed_over get put flash o from bus) from bus l
told get put flash o from bus l e = subst (λ (k : Left _). Told (is_plain o) (after_at o from) (executed_over get put flash o from bus) from bus k) (sym e) (told_as (is_plain o) (after_at o from) (executed_over get put flash o from bus) from bus)
