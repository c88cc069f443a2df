-- What an instruction on memory leaves as it is: whatever each load and each store of the bus leaves.
use Rattle.std.proofs.Common.{◌≡◌, ℕ, ◌+◌, ◌%◌, Bool, true, false, List}
use Rattle.std.specs.Prelude.{Result, slice_index}
use Rattle.avr_base.specs.Flags.{with_flag}
use Rattle.avr_base.specs.declared.stop.StopCause.{StopCause}
use Rattle.avr_decoder.specs.declared.op.Op.{Op}
use Rattle.avr_decoder.specs.declared.op.Op.TheVariants as op
use Rattle.data_space.specs.declared.cpu.Cpu.{Cpu}
use Rattle.data_space.specs.Core.{with_pair, pair_at}
use Rattle.data_space.specs.Space.{loaded, stored, pushed, popped, unless_stopped}
use Rattle.data_space.proofs.Keeps.{Keeps, loaded_kept, popped_kept, pushed_kept, stopped_kept, stored_kept, then_kept}
use Rattle.avr_core.specs.MemoryShapes.{decremented, displaced, loads, loads_post_increment, loads_pre_decrement, stores, stores_post_increment, stores_pre_decrement, pushes, pops, sets_bit}
use Rattle.avr_core.specs.MemoryTable.{memory_effect, x, y, z}

module _ {B V : Type 0} {view : B → V} {get : B → ℕ → Result (ℕ × B) StopCause} {put : B → ℕ → ℕ → Result B StopCause}
    (keeps : Keeps view get put) (v : V) where
  loads_kept : (d at words cycles : ℕ) (cpu : Cpu) (bus : B) → view bus ≡ v → view (loads get d at words cycles cpu bus).bus ≡ v
  unfolding loads
  loads_kept d at words cycles cpu bus h = let got = loaded get at cpu bus in then_kept keeps v got got.result _ (loaded_kept keeps v at cpu bus h) (λ value c b k. k)

  loads_post_increment_kept : (d p : ℕ) (cpu : Cpu) (bus : B) → view bus ≡ v → view (loads_post_increment get d p cpu bus).bus ≡ v
  unfolding loads_post_increment
  loads_post_increment_kept d p cpu bus h = let got = loaded get (pair_at p cpu) cpu bus in then_kept keeps v got got.result _ (loaded_kept keeps v (pair_at p cpu) cpu bus h) (λ value c b k. k)

  loads_pre_decrement_kept : (d p : ℕ) (cpu : Cpu) (bus : B) → view bus ≡ v → view (loads_pre_decrement get d p cpu bus).bus ≡ v
  unfolding loads_pre_decrement
  loads_pre_decrement_kept d p cpu bus h =
      let at : ℕ = decremented p cpu in
      let lower : Cpu = with_pair p at cpu in
      let a = loaded get at lower bus in
      let settled = unless_stopped cpu a a.result in
      then_kept keeps v settled settled.result _ (stopped_kept keeps v cpu a a.result (loaded_kept keeps v at lower bus h)) (λ value c b k. k)

  stores_kept : (at value words cycles : ℕ) (cpu : Cpu) (bus : B) → view bus ≡ v → view (stores put at value words cycles cpu bus).bus ≡ v
  unfolding stores
  stores_kept at value words cycles cpu bus h = let a = stored put at value cpu bus in then_kept keeps v a a.result _ (stored_kept keeps v at value cpu bus h) (λ u c b k. k)

  stores_post_increment_kept : (p r : ℕ) (cpu : Cpu) (bus : B) → view bus ≡ v → view (stores_post_increment put p r cpu bus).bus ≡ v
  unfolding stores_post_increment
  stores_post_increment_kept p r cpu bus h =
      let value : ℕ = slice_index cpu.r r in
      let a = stored put (pair_at p cpu) value cpu bus in then_kept keeps v a a.result _ (stored_kept keeps v (pair_at p cpu) value cpu bus h) (λ u c b k. k)

  stores_pre_decrement_kept : (p r : ℕ) (cpu : Cpu) (bus : B) → view bus ≡ v → view (stores_pre_decrement put p r cpu bus).bus ≡ v
  unfolding stores_pre_decrement
  stores_pre_decrement_kept p r cpu bus h =
      let at : ℕ = decremented p cpu in
      let lower : Cpu = with_pair p at cpu in
      let value : ℕ = slice_index lower.r r in
      let a = stored put at value lower bus in
      let settled = unless_stopped cpu a a.result in
      then_kept keeps v settled settled.result _ (stopped_kept keeps v cpu a a.result (stored_kept keeps v at value lower bus h)) (λ u c b k. k)

  pushes_kept : (r : ℕ) (cpu : Cpu) (bus : B) → view bus ≡ v → view (pushes put r cpu bus).bus ≡ v
  unfolding pushes
  pushes_kept r cpu bus h =
      let value : ℕ = slice_index cpu.r r in let a = pushed put value cpu bus in then_kept keeps v a a.result _ (pushed_kept keeps v value cpu bus h) (λ u c b k. k)

  pops_kept : (d : ℕ) (cpu : Cpu) (bus : B) → view bus ≡ v → view (pops get d cpu bus).bus ≡ v
  unfolding pops
  pops_kept d cpu bus h = let got = popped get cpu bus in then_kept keeps v got got.result _ (popped_kept keeps v cpu bus h) (λ value c b k. k)

  bit_kept : (a b : ℕ) (on : Bool) (cpu : Cpu) (bus : B) → view bus ≡ v → view (sets_bit get put a b on cpu bus).bus ≡ v
  unfolding sets_bit
  bit_kept a b on cpu bus h =
      let got = loaded get (a + 0x20) cpu bus in
      then_kept keeps v got got.result _ (loaded_kept keeps v (a + 0x20) cpu bus h) (λ value c e k. stores_kept (a + 0x20) (with_flag value b on) 1 2 c e k)

  pub memory_keeps : (flash : List ℕ) (o : Op) (cpu : Cpu) (bus : B) → view bus ≡ v → view (memory_effect get put flash o cpu bus).bus ≡ v
  unfolding memory_effect
  memory_keeps flash (op.LdX d) cpu bus h = loads_kept d (pair_at x cpu) 1 2 cpu bus h
  memory_keeps flash (op.LddY d q) cpu bus h = loads_kept d (displaced y q cpu) 1 2 cpu bus h
  memory_keeps flash (op.LddZ d q) cpu bus h = loads_kept d (displaced z q cpu) 1 2 cpu bus h
  memory_keeps flash (op.Lds d k) cpu bus h = loads_kept d k 2 2 cpu bus h
  memory_keeps flash (op.InIo d a) cpu bus h = loads_kept d (a + 0x20) 1 1 cpu bus h
  memory_keeps flash (op.LdXInc d) cpu bus h = loads_post_increment_kept d x cpu bus h
  memory_keeps flash (op.LdYInc d) cpu bus h = loads_post_increment_kept d y cpu bus h
  memory_keeps flash (op.LdZInc d) cpu bus h = loads_post_increment_kept d z cpu bus h
  memory_keeps flash (op.LdXDec d) cpu bus h = loads_pre_decrement_kept d x cpu bus h
  memory_keeps flash (op.LdYDec d) cpu bus h = loads_pre_decrement_kept d y cpu bus h
  memory_keeps flash (op.LdZDec d) cpu bus h = loads_pre_decrement_kept d z cpu bus h
  memory_keeps flash (op.StX r) cpu bus h = stores_kept (pair_at x cpu) (slice_index cpu.r r) 1 2 cpu bus h
  memory_keeps flash (op.StdY q r) cpu bus h = stores_kept (displaced y q cpu) (slice_index cpu.r r) 1 2 cpu bus h
  memory_keeps flash (op.StdZ q r) cpu bus h = stores_kept (displaced z q cpu) (slice_index cpu.r r) 1 2 cpu bus h
  memory_keeps flash (op.Sts k r) cpu bus h = stores_kept k (slice_index cpu.r r) 2 2 cpu bus h
  memory_keeps flash (op.OutIo a r) cpu bus h = stores_kept (a + 0x20) (slice_index cpu.r r) 1 1 cpu bus h
  memory_keeps flash (op.StXInc r) cpu bus h = stores_post_increment_kept x r cpu bus h
  memory_keeps flash (op.StYInc r) cpu bus h = stores_post_increment_kept y r cpu bus h
  memory_keeps flash (op.StZInc r) cpu bus h = stores_post_increment_kept z r cpu bus h
  memory_keeps flash (op.StXDec r) cpu bus h = stores_pre_decrement_kept x r cpu bus h
  memory_keeps flash (op.StYDec r) cpu bus h = stores_pre_decrement_kept y r cpu bus h
  memory_keeps flash (op.StZDec r) cpu bus h = stores_pre_decrement_kept z r cpu bus h
  memory_keeps flash (op.Push r) cpu bus h = pushes_kept r cpu bus h
  memory_keeps flash (op.Pop d) cpu bus h = pops_kept d cpu bus h
  memory_keeps flash (op.Sbi a b) cpu bus h = bit_kept a (b % 8) true cpu bus h
  memory_keeps flash (op.Cbi a b) cpu bus h = bit_kept a (b % 8) false cpu bus h
  memory_keeps flash _ cpu bus h = h
