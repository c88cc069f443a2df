-- Pushes and pops over a memory.
use Rattle.std.proofs.Common.{◌≡◌, ℕ, ◌+◌, ◌%◌, ◌≤◌, ◌<◌, ◌==◌, nat_lt, false, Result, Ok, refl, ap, ◌∙◌, arith}
use Rattle.std.proofs.lemmas.Bool.Decides.{nat_tests}
use Rattle.avr_base.specs.declared.stop.StopCause.{StopCause}
use Rattle.data_space.specs.declared.cpu.Cpu.{Cpu}
use Rattle.data_space.specs.Space.{Access, answered, loaded, lowered, popped, pushed, stored, taken, unless_stopped}

not_below : (at n : ℕ) → n ≤ at → nat_lt at n ≡ false
not_below at n h = grind (arith, nat_tests)

not_at : (at n : ℕ) → n < at → (at == n) ≡ false
not_at at n h = grind (arith, nat_tests)

abbrev pub at_sp : ℕ → Cpu → Cpu
at_sp sp cpu = record cpu { sp = sp }

module _ {B : Type 0} (get : B → ℕ → Result (ℕ × B) StopCause) (put : B → ℕ → ℕ → Result B StopCause) where
  stored_out : (at x : ℕ) (cpu : Cpu) (bus : B) → 0x60 ≤ at → stored put at x cpu bus ≡ taken cpu bus (put bus at x)
  unfolding stored
  stored_out at x cpu bus h =
      rw (not_below at 0x20 (omega arith), not_at at 0x5B (omega arith), not_at at 0x5D (omega arith), not_at at 0x5E (omega arith), not_at at 0x5F (omega arith)) refl

  loaded_out : (at : ℕ) (cpu : Cpu) (bus : B) → 0x60 ≤ at → loaded get at cpu bus ≡ answered cpu bus (get bus at)
  unfolding loaded
  loaded_out at cpu bus h =
      rw (not_below at 0x20 (omega arith), not_at at 0x5B (omega arith), not_at at 0x5D (omega arith), not_at at 0x5E (omega arith), not_at at 0x5F (omega arith)) refl

  pub pushed_out : (x : ℕ) (cpu : Cpu) (bus bus' : B) → 0x60 ≤ cpu.sp → put bus cpu.sp x ≡ Ok bus'
      → pushed put x cpu bus ≡ record { result = Ok tt; cpu = at_sp ((cpu.sp + 65535) % 65536) cpu; bus = bus' }
  unfolding pushed
  pushed_out x cpu bus bus' h e =
      let access : stored put cpu.sp x cpu bus ≡ record { result = Ok tt; cpu = cpu; bus = bus' } = stored_out cpu.sp x cpu bus h ∙ ap (taken cpu bus) e in
      ap (λ (it : Access (Unit {0}) B). lowered ((cpu.sp + 65535) % 65536) it it.result) access

  pub popped_out : (at x : ℕ) (cpu : Cpu) (bus : B) → (cpu.sp + 1) % 65536 ≡ at → 0x60 ≤ at → get bus at ≡ Ok (x, bus)
      → popped get cpu bus ≡ record { result = Ok x; cpu = at_sp at cpu; bus = bus }
  unfolding popped
  popped_out at x cpu bus same h e =
      let access : loaded get at (at_sp at cpu) bus ≡ record { result = Ok x; cpu = at_sp at cpu; bus = bus } =
      loaded_out at (at_sp at cpu) bus h ∙ ap (answered (at_sp at cpu) bus) e in
      ap (λ (n : ℕ). let it = loaded get n (at_sp n cpu) bus in unless_stopped cpu it it.result) same
      ∙ ap (λ (it : Access ℕ B). unless_stopped cpu it it.result) access
