-- A part of the data space that no access changes is as it was after an instruction and after an entry, and so is that
-- part of a node's state after the processor's part of a cycle.
use Rattle.std.proofs.Common.{◌≡◌, ℕ, ◌-◌, nat_lt, Bool, true, false, cond, List, slice_set, Option, Some, None, refl, sym, ◌∙◌}
use Rattle.std.specs.Prelude.{Result, Ok, Err}
use Rattle.avr_base.specs.declared.stop.StopCause.{StopCause}
use Rattle.avr_base.specs.declared.interrupts.Vector.{Vector}
use Rattle.avr_decoder.specs.Class.{class_of}
use Rattle.avr_decoder.specs.declared.op.Class.{Class}
use Rattle.avr_decoder.specs.declared.op.Class.TheVariants as class
use Rattle.avr_decoder.specs.declared.op.Op.{Op}
use Rattle.board_io.specs.declared.clocked.ClockedBoard.{ClockedBoard}
use Rattle.board_io.specs.Lines.{entered_of}
use Rattle.board_io.specs.Registers.{io_get, io_put}
use Rattle.data_space.specs.declared.bus.Done.{Done}
use Rattle.data_space.specs.declared.cpu.Cpu.{Cpu}
use Rattle.data_space.specs.Sequence.{pushed_word}
use Rattle.data_space.specs.Space.{Access}
use Rattle.data_space.proofs.Keeps.{Got, Keeps, Put, then_kept, word_pushed}
use Rattle.avr_core.proofs.FlowKeeps.{flow_keeps}
use Rattle.avr_core.proofs.MemoryKeeps.{memory_keeps}
use Rattle.node_core.specs.declared.bus.NodeBus.{NodeBus}
use Rattle.node_core.specs.Bus.{board_got, board_put, bus_at, bus_get, bus_put, with_io}
use Rattle.node_core.specs.Cycle.{acted, after_entry, after_instruction, cpu_cycle, entered, instructed, is_refused, op_now}
use Rattle.avr_core.specs.Execute.{executed_over}
use Rattle.node_core.specs.Execute.{executed, executed_by}
use Rattle.node_core.specs.Interrupts.{due, entry}
use Rattle.node_core.specs.State.{NodeState}

-- a part of the data space that no access changes
pub record IsUntouched {V : Type 0} (part : NodeBus → V) : Type 0 where
  pub got : (bus : NodeBus) (io : ClockedBoard) (at x : ℕ) → io_get bus.io at ≡ Ok (x, io)
      → part (with_io bus io) ≡ part bus
  pub put : (bus : NodeBus) (io : ClockedBoard) (at x : ℕ) → io_put bus.io at x ≡ Ok io
      → part (with_io bus io) ≡ part bus
  pub stored : (bus : NodeBus) (i x : ℕ) → part (record bus { sram = slice_set bus.sram i x }) ≡ part bus

module _ {V : Type 0} {part : NodeBus → V} (untouched : IsUntouched part) where
  got_case : (v : V) (b : Bool) (p q : Result (ℕ × NodeBus) StopCause) → Got part v p → Got part v q
      → Got part v (cond b p q)
  got_case v true p q h k = h
  got_case v false p q h k = k

  put_case : (v : V) (b : Bool) (p q : Result NodeBus StopCause) → Put part v p → Put part v q → Put part v (cond b p q)
  put_case v true p q h k = h
  put_case v false p q h k = k

  got_board : (bus : NodeBus) (at : ℕ) (r : Result (ℕ × ClockedBoard) StopCause) → io_get bus.io at ≡ r
      → Got part (part bus) (board_got bus r)
  got_board bus at (Ok given) e = untouched.got bus given.1 at given.0 e
  got_board bus at (Err cause) e = tt

  put_board : (bus : NodeBus) (at x : ℕ) (r : Result ClockedBoard StopCause) → io_put bus.io at x ≡ r
      → Put part (part bus) (board_put bus r)
  put_board bus at x (Ok given) e = untouched.put bus given at x e
  put_board bus at x (Err cause) e = tt

  get_keeps : (bus : NodeBus) (at : ℕ) → Got part (part bus) (bus_get bus at)
  unfolding bus_get
  get_keeps bus at =
      got_case (part bus) (nat_lt 0x10FF at) _ _ tt
      (got_case (part bus) (nat_lt 0xFF at) _ _ refl (got_board bus at (io_get bus.io at) refl))

  put_keeps : (bus : NodeBus) (at x : ℕ) → Put part (part bus) (bus_put bus at x)
  unfolding bus_put
  put_keeps bus at x =
      put_case (part bus) (nat_lt 0x10FF at) _ _ tt
      (put_case (part bus) (nat_lt 0xFF at) _ _ (untouched.stored bus _ x)
      (put_board bus at x (io_put bus.io at x) refl))

  keeps : Keeps part bus_get bus_put
  keeps = record { gets = get_keeps; puts = put_keeps }

  by_class : (k : Class) (flash : List ℕ) (o : Op) (cpu : Cpu) (bus : NodeBus)
      → part (executed_by k flash o cpu bus).bus ≡ part bus
  by_class class.Arith flash o cpu bus = refl
  by_class class.Flow flash o cpu bus = flow_keeps keeps (part bus) flash o cpu bus refl
  by_class class.Memory flash o cpu bus = memory_keeps keeps (part bus) flash o cpu bus refl
  by_class (class.Halting cause) flash o cpu bus = refl

  pub executed_keeps : (flash : List ℕ) (o : Op) (cpu : Cpu) (bus : NodeBus)
      → part (executed flash o cpu bus).bus ≡ part bus
  unfolding executed_over
  executed_keeps flash o cpu bus = by_class (class_of o) flash o cpu bus

  pub entry_keeps : (word : ℕ) (cpu : Cpu) (bus : NodeBus) → part (entry word cpu bus).bus ≡ part bus
  unfolding entry
  entry_keeps word cpu bus =
      let v : V = part bus in
      let back = pushed_word bus_put cpu.pc cpu bus in
      then_kept keeps v back back.result _ (word_pushed keeps v cpu.pc cpu bus refl) (λ done c b h. h)

-- a part of a node's state that is that part of its data space, also of one whose devices served an interrupt
pub record IsPart {V : Type 0} (part : NodeBus → V) (of_state : NodeState → V) : Type 0 where
  pub same : (s : NodeState) (bus : NodeBus) → s.board ≡ bus.io.board → s.sram ≡ bus.sram → of_state s ≡ part bus
  pub served : (s : NodeState) (bus : NodeBus) (word : ℕ) → s.board ≡ entered_of word bus.io.board → s.sram ≡ bus.sram
      → of_state s ≡ part bus

module _ {V : Type 0} {part : NodeBus → V} {of_state : NodeState → V}
    (untouched : IsUntouched part) (p : IsPart part of_state) where
  state_case : (v : V) (b : Bool) (s u : NodeState) → of_state s ≡ v → of_state u ≡ v → of_state (cond b s u) ≡ v
  state_case v true s u h k = h
  state_case v false s u h k = k

  before : (t : ℕ) (s : NodeState) → part (bus_at t s) ≡ of_state s
  before t s = sym (p.same s (bus_at t s) refl refl)

  after : (s : NodeState) (o : Op) (r : Result Done StopCause) (cpu : Cpu) (bus : NodeBus)
      → of_state (after_instruction s o r cpu bus) ≡ part bus
  after s o (Ok d) cpu bus = p.same _ bus refl refl
  after s o (Err cause) cpu bus = p.same _ bus refl refl

  instructed_keeps : (t : ℕ) (s : NodeState) → of_state (instructed t s) ≡ of_state s
  unfolding instructed
  instructed_keeps t s =
      let o = executed s.flash (op_now s) s.cpu (bus_at t s) in
      state_case (of_state s) (is_refused s (op_now s)) _ _ (p.same _ (bus_at t s) refl refl ∙ before t s)
      (after s (op_now s) o.result o.cpu o.bus
      ∙ (executed_keeps untouched s.flash (op_now s) s.cpu (bus_at t s) ∙ before t s))

  after_served : (wait : ℕ) (v : Vector) (s : NodeState) (a : Access (Unit {0}) NodeBus)
      (r : Result (Unit {0}) StopCause)
      → of_state (after_entry wait v s a r) ≡ part a.bus
  after_served wait v s a (Ok done) = p.served _ a.bus v.word refl refl
  after_served wait v s a (Err cause) = p.same _ a.bus refl refl

  entered_keeps : (t wait : ℕ) (v : Vector) (s : NodeState) → of_state (entered t wait v s) ≡ of_state s
  unfolding entered
  entered_keeps t wait v s =
      let a = entry v.word s.cpu (bus_at t s) in
      after_served wait v s a a.result ∙ (entry_keeps untouched v.word s.cpu (bus_at t s) ∙ before t s)

  acted_keeps : (t : ℕ) (s : NodeState) (o : Option Vector) → of_state (acted t s o) ≡ of_state s
  acted_keeps t s None = state_case (of_state s) s.asleep _ _ refl (instructed_keeps t s)
  acted_keeps t s (Some v) =
      state_case (of_state s) s.asleep _ _ (entered_keeps t 7 v s)
      (state_case (of_state s) s.owed _ _ (instructed_keeps t s) (entered_keeps t 3 v s))

  pub cpu_keeps : (t : ℕ) (s : NodeState) → of_state (cpu_cycle t s) ≡ of_state s
  unfolding cpu_cycle
  cpu_keeps t s =
      let waited : NodeState = record s { wait = s.wait - 1 } in
      state_case (of_state s) (nat_lt 0 s.wait) _ _ (p.same waited (bus_at t s) refl refl ∙ before t s)
      (acted_keeps t s (due s))
