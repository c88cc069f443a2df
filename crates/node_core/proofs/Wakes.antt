-- Of the instructions that end only SLEEP puts the node to sleep.
use Rattle.std.proofs.Common.{◌≡◌, ℕ, ◌+◌, ◌%◌, Bool, true, false, List, refl, sym, subst}
use Rattle.std.proofs.lemmas.Bool.{false≢true}
use Rattle.std.specs.Prelude.{ℤ, Result, Ok, Err, IfOk, slice_index}
use Rattle.avr_base.specs.Flags.{with_flag}
use Rattle.avr_base.specs.declared.stop.StopCause.{StopCause}
use Rattle.avr_decoder.specs.Class.{class_of}
use Rattle.avr_decoder.specs.declared.op.Class.{Class}
use Rattle.avr_decoder.specs.declared.op.Class.TheVariants as class
use Rattle.avr_decoder.specs.declared.op.Op.{Op}
use Rattle.avr_decoder.specs.declared.op.Op.TheVariants as op
use Rattle.data_space.specs.declared.bus.Done.{Done}
use Rattle.data_space.specs.declared.cpu.Cpu.{Cpu}
use Rattle.data_space.specs.Core.{pair_at, with_pair}
use Rattle.data_space.specs.Space.{Access, loaded, popped, pushed, stored, unless_stopped}
use Rattle.data_space.specs.Sequence.{Outcome, popped_word, then_do}
use Rattle.avr_core.specs.FlowShapes.{bit_is, branched, calls, pushes_return, relative, returns, returns_enabling, skips_by_io}
use Rattle.avr_core.specs.FlowTable.{flow_effect}
use Rattle.avr_core.specs.MemoryShapes.{decremented, displaced, loads, loads_post_increment, loads_pre_decrement, stores, stores_post_increment, stores_pre_decrement, pushes, pops, sets_bit}
use Rattle.avr_core.specs.MemoryTable.{memory_effect, x, y, z}
use Rattle.node_core.specs.declared.bus.NodeBus.{NodeBus}
use Rattle.node_core.specs.Bus.{bus_get, bus_put}
use Rattle.avr_core.specs.Execute.{is_sleep, executed_over}
use Rattle.node_core.specs.Execute.{executed, executed_by}

abbrev Wakes : {B : Type 0} → Outcome B → Type 0
Wakes outcome = IfOk outcome.result (λ d. d.sleep ≡ false)

then_wakes : {R B : Type 0} (a : Access R B) (r : Result R StopCause) (rest : R → Cpu → B → Outcome B) → ((value : R) (cpu : Cpu) (bus : B) → Wakes (rest value cpu bus)) → Wakes (then_do a r rest)
then_wakes a (Ok value) rest k = k value a.cpu a.bus
then_wakes a (Err cause) rest k = tt

branch_wakes : (on : Bool) (k : ℤ) (cpu : Cpu) → (branched on k cpu).0.sleep ≡ false
unfolding branched
branch_wakes true k cpu = refl
branch_wakes false k cpu = refl

module _ {B : Type 0} (get : B → ℕ → Result (ℕ × B) StopCause) (put : B → ℕ → ℕ → Result B StopCause) where
  skips_wakes : (flash : List ℕ) (a b : ℕ) (on : Bool) (cpu : Cpu) (bus : B) → Wakes (skips_by_io get flash a b on cpu bus)
  unfolding skips_by_io
  skips_wakes flash a b on cpu bus = let got = loaded get (a + 0x20) cpu bus in then_wakes got got.result _ (λ byte c d. refl)

  calls_wakes : (cycles words : ℕ) (target : Cpu → ℕ) (cpu : Cpu) (bus : B) → Wakes (calls put cycles words target cpu bus)
  unfolding calls
  calls_wakes cycles words target cpu bus = let back = pushes_return put words cpu bus in then_wakes back back.result _ (λ u c b. refl)

  returns_wakes : (cpu : Cpu) (bus : B) → Wakes (returns get cpu bus)
  unfolding returns
  returns_wakes cpu bus = let back = popped_word get cpu bus in then_wakes back back.result _ (λ pc c b. refl)

  enabling_wakes : (cpu : Cpu) (bus : B) → Wakes (returns_enabling get cpu bus)
  unfolding returns_enabling
  enabling_wakes cpu bus = let back = popped_word get cpu bus in then_wakes back back.result _ (λ pc c b. refl)

  flow_wakes : (flash : List ℕ) (o : Op) (cpu : Cpu) (bus : B) → is_sleep o ≡ false → Wakes (flow_effect get put flash o cpu bus)
  unfolding flow_effect
  flow_wakes flash (op.Brbs s k) cpu bus e = branch_wakes (bit_is true (s % 8) cpu.sreg.bits) k cpu
  flow_wakes flash (op.Brbc s k) cpu bus e = branch_wakes (bit_is false (s % 8) cpu.sreg.bits) k cpu
  flow_wakes flash (op.Sbis a b) cpu bus e = skips_wakes flash a (b % 8) true cpu bus
  flow_wakes flash (op.Sbic a b) cpu bus e = skips_wakes flash a (b % 8) false cpu bus
  flow_wakes flash (op.Call k) cpu bus e = calls_wakes 4 2 (λ _. k) cpu bus
  flow_wakes flash (op.Rcall k) cpu bus e = calls_wakes 3 1 (relative k) cpu bus
  flow_wakes flash op.Icall cpu bus e = calls_wakes 3 1 (pair_at 30) cpu bus
  flow_wakes flash op.Ret cpu bus e = returns_wakes cpu bus
  flow_wakes flash op.Reti cpu bus e = enabling_wakes cpu bus
  flow_wakes flash op.Sleep cpu bus e = absurd (false≢true (sym e))
  flow_wakes flash _ cpu bus e = refl

  loads_wakes : (d at words cycles : ℕ) (cpu : Cpu) (bus : B) → Wakes (loads get d at words cycles cpu bus)
  unfolding loads
  loads_wakes d at words cycles cpu bus = let a = loaded get at cpu bus in then_wakes a a.result _ (λ value c b. refl)

  post_wakes : (d p : ℕ) (cpu : Cpu) (bus : B) → Wakes (loads_post_increment get d p cpu bus)
  unfolding loads_post_increment
  post_wakes d p cpu bus = let a = loaded get (pair_at p cpu) cpu bus in then_wakes a a.result _ (λ value c b. refl)

  pre_wakes : (d p : ℕ) (cpu : Cpu) (bus : B) → Wakes (loads_pre_decrement get d p cpu bus)
  unfolding loads_pre_decrement
  pre_wakes d p cpu bus =
      let at : ℕ = decremented p cpu in
      let a = loaded get at (with_pair p at cpu) bus in
      let settled = unless_stopped cpu a a.result in
      then_wakes settled settled.result _ (λ value c b. refl)

  stores_wakes : (at value words cycles : ℕ) (cpu : Cpu) (bus : B) → Wakes (stores put at value words cycles cpu bus)
  unfolding stores
  stores_wakes at value words cycles cpu bus = let a = stored put at value cpu bus in then_wakes a a.result _ (λ u c b. refl)

  store_post_wakes : (p r : ℕ) (cpu : Cpu) (bus : B) → Wakes (stores_post_increment put p r cpu bus)
  unfolding stores_post_increment
  store_post_wakes p r cpu bus = let a = stored put (pair_at p cpu) (slice_index cpu.r r) cpu bus in then_wakes a a.result _ (λ u c b. refl)

  store_pre_wakes : (p r : ℕ) (cpu : Cpu) (bus : B) → Wakes (stores_pre_decrement put p r cpu bus)
  unfolding stores_pre_decrement
  store_pre_wakes p r cpu bus =
      let at : ℕ = decremented p cpu in
      let lower : Cpu = with_pair p at cpu in
      let a = stored put at (slice_index lower.r r) lower bus in
      let settled = unless_stopped cpu a a.result in
      then_wakes settled settled.result _ (λ u c b. refl)

  pushes_wakes : (r : ℕ) (cpu : Cpu) (bus : B) → Wakes (pushes put r cpu bus)
  unfolding pushes
  pushes_wakes r cpu bus = let a = pushed put (slice_index cpu.r r) cpu bus in then_wakes a a.result _ (λ u c b. refl)

  pops_wakes : (d : ℕ) (cpu : Cpu) (bus : B) → Wakes (pops get d cpu bus)
  unfolding pops
  pops_wakes d cpu bus = let a = popped get cpu bus in then_wakes a a.result _ (λ value c b. refl)

  bit_wakes : (a b : ℕ) (on : Bool) (cpu : Cpu) (bus : B) → Wakes (sets_bit get put a b on cpu bus)
  unfolding sets_bit
  bit_wakes a b on cpu bus =
      let got = loaded get (a + 0x20) cpu bus in then_wakes got got.result _ (λ value c e. stores_wakes (a + 0x20) (with_flag value b on) 1 2 c e)

  memory_wakes : (flash : List ℕ) (o : Op) (cpu : Cpu) (bus : B) → Wakes (memory_effect get put flash o cpu bus)
  unfolding memory_effect
  memory_wakes flash (op.LdX d) cpu bus = loads_wakes d (pair_at x cpu) 1 2 cpu bus
  memory_wakes flash (op.LddY d q) cpu bus = loads_wakes d (displaced y q cpu) 1 2 cpu bus
  memory_wakes flash (op.LddZ d q) cpu bus = loads_wakes d (displaced z q cpu) 1 2 cpu bus
  memory_wakes flash (op.Lds d k) cpu bus = loads_wakes d k 2 2 cpu bus
  memory_wakes flash (op.InIo d a) cpu bus = loads_wakes d (a + 0x20) 1 1 cpu bus
  memory_wakes flash (op.LdXInc d) cpu bus = post_wakes d x cpu bus
  memory_wakes flash (op.LdYInc d) cpu bus = post_wakes d y cpu bus
  memory_wakes flash (op.LdZInc d) cpu bus = post_wakes d z cpu bus
  memory_wakes flash (op.LdXDec d) cpu bus = pre_wakes d x cpu bus
  memory_wakes flash (op.LdYDec d) cpu bus = pre_wakes d y cpu bus
  memory_wakes flash (op.LdZDec d) cpu bus = pre_wakes d z cpu bus
  memory_wakes flash (op.StX r) cpu bus = stores_wakes (pair_at x cpu) (slice_index cpu.r r) 1 2 cpu bus
  memory_wakes flash (op.StdY q r) cpu bus = stores_wakes (displaced y q cpu) (slice_index cpu.r r) 1 2 cpu bus
  memory_wakes flash (op.StdZ q r) cpu bus = stores_wakes (displaced z q cpu) (slice_index cpu.r r) 1 2 cpu bus
  memory_wakes flash (op.Sts k r) cpu bus = stores_wakes k (slice_index cpu.r r) 2 2 cpu bus
  memory_wakes flash (op.OutIo a r) cpu bus = stores_wakes (a + 0x20) (slice_index cpu.r r) 1 1 cpu bus
  memory_wakes flash (op.StXInc r) cpu bus = store_post_wakes x r cpu bus
  memory_wakes flash (op.StYInc r) cpu bus = store_post_wakes y r cpu bus
  memory_wakes flash (op.StZInc r) cpu bus = store_post_wakes z r cpu bus
  memory_wakes flash (op.StXDec r) cpu bus = store_pre_wakes x r cpu bus
  memory_wakes flash (op.StYDec r) cpu bus = store_pre_wakes y r cpu bus
  memory_wakes flash (op.StZDec r) cpu bus = store_pre_wakes z r cpu bus
  memory_wakes flash (op.Push r) cpu bus = pushes_wakes r cpu bus
  memory_wakes flash (op.Pop d) cpu bus = pops_wakes d cpu bus
  memory_wakes flash (op.Sbi a b) cpu bus = bit_wakes a (b % 8) true cpu bus
  memory_wakes flash (op.Cbi a b) cpu bus = bit_wakes a (b % 8) false cpu bus
  memory_wakes flash _ cpu bus = refl

wakes_by : (k : Class) (flash : List ℕ) (o : Op) (cpu : Cpu) (bus : NodeBus) → is_sleep o ≡ false → Wakes (executed_by k flash o cpu bus)
wakes_by class.Arith flash o cpu bus e = refl
wakes_by class.Flow flash o cpu bus e = flow_wakes bus_get bus_put flash o cpu bus e
wakes_by class.Memory flash o cpu bus e = memory_wakes bus_get bus_put flash o cpu bus
wakes_by (class.Halting cause) flash o cpu bus e = tt

executed_wakes : (flash : List ℕ) (o : Op) (cpu : Cpu) (bus : NodeBus) → is_sleep o ≡ false → Wakes (executed flash o cpu bus)
unfolding executed_over
executed_wakes flash o cpu bus e = wakes_by (class_of o) flash o cpu bus e

pub wakes : (a : Outcome NodeBus) (flash : List ℕ) (o : Op) (cpu : Cpu) (bus : NodeBus) (d : Done) → a ≡ executed flash o cpu bus → a.result ≡ Ok d → is_sleep o ≡ false → d.sleep ≡ false
wakes a flash o cpu bus d done ok e =
    let here : Wakes a = subst (λ (x : Outcome NodeBus). Wakes x) (sym done) (executed_wakes flash o cpu bus e) in
    let r : IfOk {E = StopCause} (Ok d) (λ (x : Done). x.sleep ≡ false) = subst (λ (x : Result Done StopCause). IfOk x (λ (y : Done). y.sleep ≡ false)) ok here in
    r
