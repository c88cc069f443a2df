-- An instruction that stops leaves the program counter as it was: only the end of an instruction moves it.
use Rattle.std.proofs.Common.{◌≡◌, ℕ, ◌+◌, ◌%◌, Bool, true, false, List, refl}
use Rattle.std.specs.Prelude.{Result, slice_index}
use Rattle.avr_base.specs.Flags.{with_flag}
use Rattle.avr_base.specs.declared.stop.StopCause.{StopCause}
use Rattle.avr_decoder.specs.declared.op.Op.{Op}
use Rattle.avr_decoder.specs.declared.op.Op.TheVariants as op
use Rattle.data_space.specs.declared.cpu.Cpu.{Cpu}
use Rattle.data_space.specs.Core.{pair_at, with_pair}
use Rattle.data_space.specs.Space.{loaded, popped, pushed, stored, unless_stopped}
use Rattle.data_space.specs.Sequence.{popped_word}
use Rattle.data_space.proofs.Stops.{Stops, loaded_pc, popped_pc, popped_word_pc, pushed_pc, pushed_word_pc, settled_pc, stored_pc, then_stops}
use Rattle.avr_core.specs.FlowShapes.{calls, pushes_return, returns, returns_enabling, skips_by_io}
use Rattle.avr_core.specs.FlowTable.{flow_effect}
use Rattle.avr_core.specs.MemoryShapes.{decremented, displaced, loads, loads_post_increment, loads_pre_decrement, stores, stores_post_increment, stores_pre_decrement, pushes, pops, sets_bit}
use Rattle.avr_core.specs.MemoryTable.{memory_effect, x, y, z}

module _ {B : Type 0} (get : B → ℕ → Result (ℕ × B) StopCause) (put : B → ℕ → ℕ → Result B StopCause) where
  skips_stops : (flash : List ℕ) (a b : ℕ) (on : Bool) (cpu : Cpu) (bus : B) → Stops cpu.pc (skips_by_io get flash a b on cpu bus)
  unfolding skips_by_io
  skips_stops flash a b on cpu bus =
      let got = loaded get (a + 0x20) cpu bus in then_stops cpu.pc got got.result _ (loaded_pc get cpu.pc (a + 0x20) cpu bus refl) (λ byte c e h. tt)

  calls_stops : (cycles words : ℕ) (target : Cpu → ℕ) (cpu : Cpu) (bus : B) → Stops cpu.pc (calls put cycles words target cpu bus)
  unfolding calls
  calls_stops cycles words target cpu bus =
      let back = pushes_return put words cpu bus in
      then_stops cpu.pc back back.result _ (pushed_word_pc put cpu.pc ((cpu.pc + words) % 65536) cpu bus refl) (λ u c e h. tt)

  returns_stops : (cpu : Cpu) (bus : B) → Stops cpu.pc (returns get cpu bus)
  unfolding returns
  returns_stops cpu bus = let back = popped_word get cpu bus in then_stops cpu.pc back back.result _ (popped_word_pc get cpu.pc cpu bus refl) (λ pc c e h. tt)

  enabling_stops : (cpu : Cpu) (bus : B) → Stops cpu.pc (returns_enabling get cpu bus)
  unfolding returns_enabling
  enabling_stops cpu bus = let back = popped_word get cpu bus in then_stops cpu.pc back back.result _ (popped_word_pc get cpu.pc cpu bus refl) (λ pc c e h. tt)

  pub flow_stops : (flash : List ℕ) (o : Op) (cpu : Cpu) (bus : B) → Stops cpu.pc (flow_effect get put flash o cpu bus)
  unfolding flow_effect
  flow_stops flash (op.Sbis a b) cpu bus = skips_stops flash a (b % 8) true cpu bus
  flow_stops flash (op.Sbic a b) cpu bus = skips_stops flash a (b % 8) false cpu bus
  flow_stops flash (op.Call k) cpu bus = calls_stops 4 2 (λ _. k) cpu bus
  flow_stops flash (op.Rcall k) cpu bus = calls_stops 3 1 _ cpu bus
  flow_stops flash op.Icall cpu bus = calls_stops 3 1 (pair_at 30) cpu bus
  flow_stops flash op.Ret cpu bus = returns_stops cpu bus
  flow_stops flash op.Reti cpu bus = enabling_stops cpu bus
  flow_stops flash _ cpu bus = tt

  loads_stops : (d at words cycles : ℕ) (cpu : Cpu) (bus : B) → Stops cpu.pc (loads get d at words cycles cpu bus)
  unfolding loads
  loads_stops d at words cycles cpu bus = let got = loaded get at cpu bus in then_stops cpu.pc got got.result _ (loaded_pc get cpu.pc at cpu bus refl) (λ byte c e h. tt)

  loads_post_increment_stops : (d p : ℕ) (cpu : Cpu) (bus : B) → Stops cpu.pc (loads_post_increment get d p cpu bus)
  unfolding loads_post_increment
  loads_post_increment_stops d p cpu bus =
      let at : ℕ = pair_at p cpu in let got = loaded get at cpu bus in then_stops cpu.pc got got.result _ (loaded_pc get cpu.pc at cpu bus refl) (λ byte c e h. tt)

  loads_pre_decrement_stops : (d p : ℕ) (cpu : Cpu) (bus : B) → Stops cpu.pc (loads_pre_decrement get d p cpu bus)
  unfolding loads_pre_decrement
  loads_pre_decrement_stops d p cpu bus =
      let at : ℕ = decremented p cpu in
      let lower : Cpu = with_pair p at cpu in
      let a = loaded get at lower bus in
      let settled = unless_stopped cpu a a.result in
      then_stops cpu.pc settled settled.result _ (settled_pc cpu.pc cpu a a.result refl (loaded_pc get cpu.pc at lower bus refl)) (λ byte c e h. tt)

  -- also where an access before this one gave the core
  stores_stops : (p at value words cycles : ℕ) (cpu : Cpu) (bus : B) → cpu.pc ≡ p → Stops p (stores put at value words cycles cpu bus)
  unfolding stores
  stores_stops p at value words cycles cpu bus h = let a = stored put at value cpu bus in then_stops p a a.result _ (stored_pc put p at value cpu bus h) (λ u c e k. tt)

  stores_post_increment_stops : (p r : ℕ) (cpu : Cpu) (bus : B) → Stops cpu.pc (stores_post_increment put p r cpu bus)
  unfolding stores_post_increment
  stores_post_increment_stops p r cpu bus =
      let at : ℕ = pair_at p cpu in
      let value : ℕ = slice_index cpu.r r in
      let a = stored put at value cpu bus in then_stops cpu.pc a a.result _ (stored_pc put cpu.pc at value cpu bus refl) (λ u c e h. tt)

  stores_pre_decrement_stops : (p r : ℕ) (cpu : Cpu) (bus : B) → Stops cpu.pc (stores_pre_decrement put p r cpu bus)
  unfolding stores_pre_decrement
  stores_pre_decrement_stops p r cpu bus =
      let at : ℕ = decremented p cpu in
      let lower : Cpu = with_pair p at cpu in
      let value : ℕ = slice_index lower.r r in
      let a = stored put at value lower bus in
      let settled = unless_stopped cpu a a.result in
      then_stops cpu.pc settled settled.result _ (settled_pc cpu.pc cpu a a.result refl (stored_pc put cpu.pc at value lower bus refl)) (λ u c e h. tt)

  pushes_stops : (r : ℕ) (cpu : Cpu) (bus : B) → Stops cpu.pc (pushes put r cpu bus)
  unfolding pushes
  pushes_stops r cpu bus =
      let value : ℕ = slice_index cpu.r r in let a = pushed put value cpu bus in then_stops cpu.pc a a.result _ (pushed_pc put cpu.pc value cpu bus refl) (λ u c e h. tt)

  pops_stops : (d : ℕ) (cpu : Cpu) (bus : B) → Stops cpu.pc (pops get d cpu bus)
  unfolding pops
  pops_stops d cpu bus = let got = popped get cpu bus in then_stops cpu.pc got got.result _ (popped_pc get cpu.pc cpu bus refl) (λ byte c e h. tt)

  bit_stops : (a b : ℕ) (on : Bool) (cpu : Cpu) (bus : B) → Stops cpu.pc (sets_bit get put a b on cpu bus)
  unfolding sets_bit
  bit_stops a b on cpu bus =
      let got = loaded get (a + 0x20) cpu bus in
      then_stops cpu.pc got got.result _ (loaded_pc get cpu.pc (a + 0x20) cpu bus refl) (λ byte c e h. stores_stops cpu.pc (a + 0x20) (with_flag byte b on) 1 2 c e h)

  pub memory_stops : (flash : List ℕ) (o : Op) (cpu : Cpu) (bus : B) → Stops cpu.pc (memory_effect get put flash o cpu bus)
  unfolding memory_effect
  memory_stops flash (op.LdX d) cpu bus = loads_stops d (pair_at x cpu) 1 2 cpu bus
  memory_stops flash (op.LddY d q) cpu bus = loads_stops d (displaced y q cpu) 1 2 cpu bus
  memory_stops flash (op.LddZ d q) cpu bus = loads_stops d (displaced z q cpu) 1 2 cpu bus
  memory_stops flash (op.Lds d k) cpu bus = loads_stops d k 2 2 cpu bus
  memory_stops flash (op.InIo d a) cpu bus = loads_stops d (a + 0x20) 1 1 cpu bus
  memory_stops flash (op.LdXInc d) cpu bus = loads_post_increment_stops d x cpu bus
  memory_stops flash (op.LdYInc d) cpu bus = loads_post_increment_stops d y cpu bus
  memory_stops flash (op.LdZInc d) cpu bus = loads_post_increment_stops d z cpu bus
  memory_stops flash (op.LdXDec d) cpu bus = loads_pre_decrement_stops d x cpu bus
  memory_stops flash (op.LdYDec d) cpu bus = loads_pre_decrement_stops d y cpu bus
  memory_stops flash (op.LdZDec d) cpu bus = loads_pre_decrement_stops d z cpu bus
  memory_stops flash (op.StX r) cpu bus = stores_stops cpu.pc (pair_at x cpu) (slice_index cpu.r r) 1 2 cpu bus refl
  memory_stops flash (op.StdY q r) cpu bus = stores_stops cpu.pc (displaced y q cpu) (slice_index cpu.r r) 1 2 cpu bus refl
  memory_stops flash (op.StdZ q r) cpu bus = stores_stops cpu.pc (displaced z q cpu) (slice_index cpu.r r) 1 2 cpu bus refl
  memory_stops flash (op.Sts k r) cpu bus = stores_stops cpu.pc k (slice_index cpu.r r) 2 2 cpu bus refl
  memory_stops flash (op.OutIo a r) cpu bus = stores_stops cpu.pc (a + 0x20) (slice_index cpu.r r) 1 1 cpu bus refl
  memory_stops flash (op.StXInc r) cpu bus = stores_post_increment_stops x r cpu bus
  memory_stops flash (op.StYInc r) cpu bus = stores_post_increment_stops y r cpu bus
  memory_stops flash (op.StZInc r) cpu bus = stores_post_increment_stops z r cpu bus
  memory_stops flash (op.StXDec r) cpu bus = stores_pre_decrement_stops x r cpu bus
  memory_stops flash (op.StYDec r) cpu bus = stores_pre_decrement_stops y r cpu bus
  memory_stops flash (op.StZDec r) cpu bus = stores_pre_decrement_stops z r cpu bus
  memory_stops flash (op.Push r) cpu bus = pushes_stops r cpu bus
  memory_stops flash (op.Pop d) cpu bus = pops_stops d cpu bus
  memory_stops flash (op.Sbi a b) cpu bus = bit_stops a (b % 8) true cpu bus
  memory_stops flash (op.Cbi a b) cpu bus = bit_stops a (b % 8) false cpu bus
  memory_stops flash _ cpu bus = tt
