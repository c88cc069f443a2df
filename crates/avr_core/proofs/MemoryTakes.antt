-- An instruction on memory that ends takes a cycle or more.
use Rattle.std.proofs.Common.{ℕ, ◌+◌, ◌%◌, ◌≤◌, Bool, true, false, List, arith}
use Rattle.std.specs.Prelude.{Result, slice_index}
use Rattle.avr_base.specs.Flags.{with_flag}
use Rattle.avr_base.specs.declared.stop.StopCause.{StopCause}
use Rattle.avr_decoder.specs.declared.op.Op.{Op}
use Rattle.avr_decoder.specs.declared.op.Op.TheVariants as op
use Rattle.data_space.specs.declared.cpu.Cpu.{Cpu}
use Rattle.data_space.specs.Core.{pair_at, with_pair}
use Rattle.data_space.specs.Space.{loaded, popped, pushed, stored, unless_stopped}
use Rattle.data_space.proofs.Takes.{Takes, then_takes}
use Rattle.avr_core.specs.MemoryShapes.{decremented, displaced, loads, loads_post_increment, loads_pre_decrement, stores, stores_post_increment, stores_pre_decrement, pushes, pops, sets_bit}
use Rattle.avr_core.specs.MemoryTable.{memory_effect, x, y, z}

module _ {B : Type 0} (get : B → ℕ → Result (ℕ × B) StopCause) (put : B → ℕ → ℕ → Result B StopCause) where
  loads_takes : (d at words cycles : ℕ) (cpu : Cpu) (bus : B) → 1 ≤ cycles → Takes (loads get d at words cycles cpu bus)
  unfolding loads
  loads_takes d at words cycles cpu bus some = let a = loaded get at cpu bus in then_takes a a.result _ (λ value c b. some)

  post_takes : (d p : ℕ) (cpu : Cpu) (bus : B) → Takes (loads_post_increment get d p cpu bus)
  unfolding loads_post_increment
  post_takes d p cpu bus = let a = loaded get (pair_at p cpu) cpu bus in then_takes a a.result _ (λ value c b. omega arith)

  pre_takes : (d p : ℕ) (cpu : Cpu) (bus : B) → Takes (loads_pre_decrement get d p cpu bus)
  unfolding loads_pre_decrement
  pre_takes d p cpu bus =
      let at : ℕ = decremented p cpu in
      let a = loaded get at (with_pair p at cpu) bus in
      let settled = unless_stopped cpu a a.result in
      then_takes settled settled.result _ (λ value c b. omega arith)

  stores_takes : (at value words cycles : ℕ) (cpu : Cpu) (bus : B) → 1 ≤ cycles → Takes (stores put at value words cycles cpu bus)
  unfolding stores
  stores_takes at value words cycles cpu bus some = let a = stored put at value cpu bus in then_takes a a.result _ (λ u c b. some)

  store_post_takes : (p r : ℕ) (cpu : Cpu) (bus : B) → Takes (stores_post_increment put p r cpu bus)
  unfolding stores_post_increment
  store_post_takes p r cpu bus = let a = stored put (pair_at p cpu) (slice_index cpu.r r) cpu bus in then_takes a a.result _ (λ u c b. omega arith)

  store_pre_takes : (p r : ℕ) (cpu : Cpu) (bus : B) → Takes (stores_pre_decrement put p r cpu bus)
  unfolding stores_pre_decrement
  store_pre_takes p r cpu bus =
      let at : ℕ = decremented p cpu in
      let lower : Cpu = with_pair p at cpu in
      let a = stored put at (slice_index lower.r r) lower bus in
      let settled = unless_stopped cpu a a.result in
      then_takes settled settled.result _ (λ u c b. omega arith)

  pushes_takes : (r : ℕ) (cpu : Cpu) (bus : B) → Takes (pushes put r cpu bus)
  unfolding pushes
  pushes_takes r cpu bus = let a = pushed put (slice_index cpu.r r) cpu bus in then_takes a a.result _ (λ u c b. omega arith)

  pops_takes : (d : ℕ) (cpu : Cpu) (bus : B) → Takes (pops get d cpu bus)
  unfolding pops
  pops_takes d cpu bus = let a = popped get cpu bus in then_takes a a.result _ (λ value c b. omega arith)

  bit_takes : (a b : ℕ) (on : Bool) (cpu : Cpu) (bus : B) → Takes (sets_bit get put a b on cpu bus)
  unfolding sets_bit
  bit_takes a b on cpu bus =
      let got = loaded get (a + 0x20) cpu bus in then_takes got got.result _ (λ value c e. stores_takes (a + 0x20) (with_flag value b on) 1 2 c e (omega arith))

  pub memory_takes : (flash : List ℕ) (o : Op) (cpu : Cpu) (bus : B) → Takes (memory_effect get put flash o cpu bus)
  unfolding memory_effect
  memory_takes flash (op.LdX d) cpu bus = loads_takes d (pair_at x cpu) 1 2 cpu bus (omega arith)
  memory_takes flash (op.LddY d q) cpu bus = loads_takes d (displaced y q cpu) 1 2 cpu bus (omega arith)
  memory_takes flash (op.LddZ d q) cpu bus = loads_takes d (displaced z q cpu) 1 2 cpu bus (omega arith)
  memory_takes flash (op.Lds d k) cpu bus = loads_takes d k 2 2 cpu bus (omega arith)
  memory_takes flash (op.InIo d a) cpu bus = loads_takes d (a + 0x20) 1 1 cpu bus (omega arith)
  memory_takes flash (op.LdXInc d) cpu bus = post_takes d x cpu bus
  memory_takes flash (op.LdYInc d) cpu bus = post_takes d y cpu bus
  memory_takes flash (op.LdZInc d) cpu bus = post_takes d z cpu bus
  memory_takes flash (op.LdXDec d) cpu bus = pre_takes d x cpu bus
  memory_takes flash (op.LdYDec d) cpu bus = pre_takes d y cpu bus
  memory_takes flash (op.LdZDec d) cpu bus = pre_takes d z cpu bus
  memory_takes flash (op.StX r) cpu bus = stores_takes (pair_at x cpu) (slice_index cpu.r r) 1 2 cpu bus (omega arith)
  memory_takes flash (op.StdY q r) cpu bus = stores_takes (displaced y q cpu) (slice_index cpu.r r) 1 2 cpu bus (omega arith)
  memory_takes flash (op.StdZ q r) cpu bus = stores_takes (displaced z q cpu) (slice_index cpu.r r) 1 2 cpu bus (omega arith)
  memory_takes flash (op.Sts k r) cpu bus = stores_takes k (slice_index cpu.r r) 2 2 cpu bus (omega arith)
  memory_takes flash (op.OutIo a r) cpu bus = stores_takes (a + 0x20) (slice_index cpu.r r) 1 1 cpu bus (omega arith)
  memory_takes flash (op.StXInc r) cpu bus = store_post_takes x r cpu bus
  memory_takes flash (op.StYInc r) cpu bus = store_post_takes y r cpu bus
  memory_takes flash (op.StZInc r) cpu bus = store_post_takes z r cpu bus
  memory_takes flash (op.StXDec r) cpu bus = store_pre_takes x r cpu bus
  memory_takes flash (op.StYDec r) cpu bus = store_pre_takes y r cpu bus
  memory_takes flash (op.StZDec r) cpu bus = store_pre_takes z r cpu bus
  memory_takes flash (op.Push r) cpu bus = pushes_takes r cpu bus
  memory_takes flash (op.Pop d) cpu bus = pops_takes d cpu bus
  memory_takes flash (op.Sbi a b) cpu bus = bit_takes a (b % 8) true cpu bus
  memory_takes flash (op.Cbi a b) cpu bus = bit_takes a (b % 8) false cpu bus
  memory_takes flash _ cpu bus = omega arith
