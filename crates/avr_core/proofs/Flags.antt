-- The flags are changed only where an instruction writes the data space, in which SREG lies, or sets flag I itself.
use Rattle.std.proofs.Common.{◌≡◌, ℕ, ◌+◌, ◌%◌, Bool, true, false, true≢false, List, refl}
use Rattle.std.specs.Prelude.{ℤ, Result}
use Rattle.avr_base.specs.declared.stop.StopCause.{StopCause}
use Rattle.avr_decoder.specs.declared.op.Op.{Op}
use Rattle.avr_decoder.specs.declared.op.Op.TheVariants as op
use Rattle.data_space.specs.declared.cpu.Cpu.{Cpu}
use Rattle.data_space.specs.Core.{pair_at, with_pair}
use Rattle.data_space.specs.Space.{loaded, popped, unless_stopped}
use Rattle.data_space.specs.Sequence.{popped_word}
use Rattle.data_space.proofs.Flags.{loaded_flags, popped_flags, popped_word_flags, stopped_flags, then_flags}
use Rattle.avr_core.specs.FlowShapes.{bit_is, branched, returns, skips_by_io}
use Rattle.avr_core.specs.FlowTable.{flow_effect}
use Rattle.avr_core.specs.MemoryShapes.{decremented, displaced, loads, loads_extended_post_increment, loads_post_increment, loads_pre_decrement, loads_program_post_increment, pops}
use Rattle.avr_core.specs.MemoryTable.{memory_effect, x, y, z}

-- whether an instruction of the flow may write the data space, or sets flag I
abbrev pub writes_in_flow : Op → Bool
writes_in_flow (op.Call k) = true
writes_in_flow (op.Rcall k) = true
writes_in_flow op.Icall = true
writes_in_flow op.Reti = true
writes_in_flow _ = false

-- whether an instruction on memory may write the data space
abbrev pub writes_in_memory : Op → Bool
writes_in_memory (op.StX r) = true
writes_in_memory (op.StdY q r) = true
writes_in_memory (op.StdZ q r) = true
writes_in_memory (op.Sts k r) = true
writes_in_memory (op.OutIo a r) = true
writes_in_memory (op.StXInc r) = true
writes_in_memory (op.StYInc r) = true
writes_in_memory (op.StZInc r) = true
writes_in_memory (op.StXDec r) = true
writes_in_memory (op.StYDec r) = true
writes_in_memory (op.StZDec r) = true
writes_in_memory (op.Push r) = true
writes_in_memory (op.Sbi a b) = true
writes_in_memory (op.Cbi a b) = true
writes_in_memory _ = false

branched_flags : (on : Bool) (k : ℤ) (cpu : Cpu) → (branched on k cpu).1.sreg ≡ cpu.sreg
unfolding branched
branched_flags true k cpu = refl
branched_flags false k cpu = refl

module _ {B : Type 0} (get : B → ℕ → Result (ℕ × B) StopCause) (put : B → ℕ → ℕ → Result B StopCause) where
  skips_flags : (flash : List ℕ) (a b : ℕ) (on : Bool) (cpu : Cpu) (bus : B) → (skips_by_io get flash a b on cpu bus).cpu.sreg ≡ cpu.sreg
  unfolding skips_by_io
  skips_flags flash a b on cpu bus =
      let got = loaded get (a + 0x20) cpu bus in then_flags cpu.sreg got got.result _ (loaded_flags get (a + 0x20) cpu bus) (λ byte c e h. h)

  returns_flags : (cpu : Cpu) (bus : B) → (returns get cpu bus).cpu.sreg ≡ cpu.sreg
  unfolding returns
  returns_flags cpu bus = let back = popped_word get cpu bus in then_flags cpu.sreg back back.result _ (popped_word_flags get cpu bus) (λ pc c e h. h)

  -- no other changes a flag
  pub flow_keeps_flags : (flash : List ℕ) (o : Op) (cpu : Cpu) (bus : B) → writes_in_flow o ≡ false → (flow_effect get put flash o cpu bus).cpu.sreg ≡ cpu.sreg
  unfolding flow_effect
  flow_keeps_flags flash (op.Brbs s k) cpu bus h = branched_flags (bit_is true (s % 8) cpu.sreg.bits) k cpu
  flow_keeps_flags flash (op.Brbc s k) cpu bus h = branched_flags (bit_is false (s % 8) cpu.sreg.bits) k cpu
  flow_keeps_flags flash (op.Sbis a b) cpu bus h = skips_flags flash a (b % 8) true cpu bus
  flow_keeps_flags flash (op.Sbic a b) cpu bus h = skips_flags flash a (b % 8) false cpu bus
  flow_keeps_flags flash (op.Call k) cpu bus h = absurd (true≢false h)
  flow_keeps_flags flash (op.Rcall k) cpu bus h = absurd (true≢false h)
  flow_keeps_flags flash op.Icall cpu bus h = absurd (true≢false h)
  flow_keeps_flags flash op.Ret cpu bus h = returns_flags cpu bus
  flow_keeps_flags flash op.Reti cpu bus h = absurd (true≢false h)
  flow_keeps_flags flash _ cpu bus h = refl

  loads_flags : (d at words cycles : ℕ) (cpu : Cpu) (bus : B) → (loads get d at words cycles cpu bus).cpu.sreg ≡ cpu.sreg
  unfolding loads
  loads_flags d at words cycles cpu bus = let got = loaded get at cpu bus in then_flags cpu.sreg got got.result _ (loaded_flags get at cpu bus) (λ byte c e h. h)

  loads_post_increment_flags : (d p : ℕ) (cpu : Cpu) (bus : B) → (loads_post_increment get d p cpu bus).cpu.sreg ≡ cpu.sreg
  unfolding loads_post_increment
  loads_post_increment_flags d p cpu bus = let got = loaded get (pair_at p cpu) cpu bus in then_flags cpu.sreg got got.result _ (loaded_flags get (pair_at p cpu) cpu bus) (λ byte c e h. h)

  loads_pre_decrement_flags : (d p : ℕ) (cpu : Cpu) (bus : B) → (loads_pre_decrement get d p cpu bus).cpu.sreg ≡ cpu.sreg
  unfolding loads_pre_decrement
  loads_pre_decrement_flags d p cpu bus =
      let at : ℕ = decremented p cpu in
      let lower : Cpu = with_pair p at cpu in
      let a = loaded get at lower bus in
      let settled = unless_stopped cpu a a.result in
      then_flags cpu.sreg settled settled.result _ (stopped_flags cpu.sreg cpu a a.result refl (loaded_flags get at lower bus)) (λ byte c e h. h)

  pops_flags : (d : ℕ) (cpu : Cpu) (bus : B) → (pops get d cpu bus).cpu.sreg ≡ cpu.sreg
  unfolding pops
  pops_flags d cpu bus = let got = popped get cpu bus in then_flags cpu.sreg got got.result _ (popped_flags get cpu bus) (λ byte c e h. h)

  pub memory_keeps_flags : (flash : List ℕ) (o : Op) (cpu : Cpu) (bus : B) → writes_in_memory o ≡ false → (memory_effect get put flash o cpu bus).cpu.sreg ≡ cpu.sreg
  unfolding memory_effect loads_program_post_increment loads_extended_post_increment
  memory_keeps_flags flash (op.LdX d) cpu bus h = loads_flags d (pair_at x cpu) 1 2 cpu bus
  memory_keeps_flags flash (op.LddY d q) cpu bus h = loads_flags d (displaced y q cpu) 1 2 cpu bus
  memory_keeps_flags flash (op.LddZ d q) cpu bus h = loads_flags d (displaced z q cpu) 1 2 cpu bus
  memory_keeps_flags flash (op.Lds d k) cpu bus h = loads_flags d k 2 2 cpu bus
  memory_keeps_flags flash (op.InIo d a) cpu bus h = loads_flags d (a + 0x20) 1 1 cpu bus
  memory_keeps_flags flash (op.LdXInc d) cpu bus h = loads_post_increment_flags d x cpu bus
  memory_keeps_flags flash (op.LdYInc d) cpu bus h = loads_post_increment_flags d y cpu bus
  memory_keeps_flags flash (op.LdZInc d) cpu bus h = loads_post_increment_flags d z cpu bus
  memory_keeps_flags flash (op.LdXDec d) cpu bus h = loads_pre_decrement_flags d x cpu bus
  memory_keeps_flags flash (op.LdYDec d) cpu bus h = loads_pre_decrement_flags d y cpu bus
  memory_keeps_flags flash (op.LdZDec d) cpu bus h = loads_pre_decrement_flags d z cpu bus
  memory_keeps_flags flash (op.StX r) cpu bus h = absurd (true≢false h)
  memory_keeps_flags flash (op.StdY q r) cpu bus h = absurd (true≢false h)
  memory_keeps_flags flash (op.StdZ q r) cpu bus h = absurd (true≢false h)
  memory_keeps_flags flash (op.Sts k r) cpu bus h = absurd (true≢false h)
  memory_keeps_flags flash (op.OutIo a r) cpu bus h = absurd (true≢false h)
  memory_keeps_flags flash (op.StXInc r) cpu bus h = absurd (true≢false h)
  memory_keeps_flags flash (op.StYInc r) cpu bus h = absurd (true≢false h)
  memory_keeps_flags flash (op.StZInc r) cpu bus h = absurd (true≢false h)
  memory_keeps_flags flash (op.StXDec r) cpu bus h = absurd (true≢false h)
  memory_keeps_flags flash (op.StYDec r) cpu bus h = absurd (true≢false h)
  memory_keeps_flags flash (op.StZDec r) cpu bus h = absurd (true≢false h)
  memory_keeps_flags flash (op.Push r) cpu bus h = absurd (true≢false h)
  memory_keeps_flags flash (op.Pop d) cpu bus h = pops_flags d cpu bus
  memory_keeps_flags flash (op.Sbi a b) cpu bus h = absurd (true≢false h)
  memory_keeps_flags flash (op.Cbi a b) cpu bus h = absurd (true≢false h)
  memory_keeps_flags flash _ cpu bus h = refl
