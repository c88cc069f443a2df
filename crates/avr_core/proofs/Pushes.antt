-- Two pushes to the internal SRAM leave the core but for the stack pointer.
use Rattle.std.proofs.Common.{◌≡◌, ℕ, ◌+◌, ◌-◌, ◌*◌, ◌/◌, ◌%◌, if◌then◌else◌, not, nat_lt, Bool, true, false, refl, ap, sym, subst, ◌∙◌, arith}
use Rattle.std.proofs.lemmas.Bool.{and_parts}
use Rattle.std.proofs.lemmas.Bool.Decides.{nat_tests}
use Rattle.std.specs.Prelude.{Result, Ok, Err}
use Rattle.avr_base.specs.declared.stop.StopCause.{StopCause}
use Rattle.data_space.specs.declared.cpu.Cpu.{Cpu}
use Rattle.data_space.specs.Core.{core_of}
use Rattle.data_space.specs.Sequence.{pushed_word, then_do}
use Rattle.data_space.specs.Space.{Access, lowered, pushed, stored, taken}
use Rattle.avr_core.specs.Execute.{in_sram, calls_by_sram}

-- two pushes over any bus leave SREG and the program counter, also where one stops
module _ {B : Type 0} (put_gives : B → ℕ → ℕ → Result B StopCause) where
  store_over : (at x : ℕ) (cpu : Cpu) (bus : B) → in_sram at ≡ true → stored put_gives at x cpu bus ≡ taken cpu bus (put_gives bus at x)
  unfolding stored
  store_over at x cpu bus h = grind (arith, nat_tests, h)

  lowered_core : (sp : ℕ) (cpu : Cpu) (bus : B) (r : Result B StopCause) → core_of (lowered sp (taken cpu bus r) (taken cpu bus r).result).cpu ≡ core_of cpu
  lowered_core sp cpu bus (Ok there) = refl
  lowered_core sp cpu bus (Err cause) = refl

  push_core : (x : ℕ) (cpu : Cpu) (bus : B) → in_sram cpu.sp ≡ true → core_of (pushed put_gives x cpu bus).cpu ≡ core_of cpu
  unfolding pushed
  push_core x cpu bus h =
      subst (λ (a : Access (Unit {0}) B). core_of (lowered ((cpu.sp + 65535) % 65536) a a.result).cpu ≡ core_of cpu) (sym (store_over cpu.sp x cpu bus h)) (lowered_core ((cpu.sp + 65535) % 65536) cpu bus (put_gives bus cpu.sp x))

  abbrev second : ℕ → Access (Unit {0}) B → Access (Unit {0}) B
  second x low = then_do low low.result (λ _ c b. pushed put_gives x c b)

  second_core : (x sp : ℕ) (cpu : Cpu) (bus : B) (r : Result B StopCause) → in_sram sp ≡ true → core_of (second x (lowered sp (taken cpu bus r) (taken cpu bus r).result)).cpu ≡ core_of cpu
  second_core x sp cpu bus (Ok there) h = push_core x (record cpu { sp = sp }) there h
  second_core x sp cpu bus (Err cause) h = refl

  pub word_core : (word : ℕ) (cpu : Cpu) (bus : B) → calls_by_sram cpu.sp ≡ true → core_of (pushed_word put_gives word cpu bus).cpu ≡ core_of cpu
  unfolding pushed_word pushed
  word_core word cpu bus h =
      let both = and_parts _ _ h in
      subst (λ (a : Access (Unit {0}) B). core_of (second (word / 256) (lowered ((cpu.sp + 65535) % 65536) a a.result)).cpu ≡ core_of cpu) (sym (store_over cpu.sp (word % 256) cpu bus both.0))
      (second_core (word / 256) ((cpu.sp + 65535) % 65536) cpu bus (put_gives bus cpu.sp (word % 256)) both.1)
