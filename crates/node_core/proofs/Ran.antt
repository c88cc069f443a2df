-- What the processor's part of a cycle leaves, by what an instruction does to the core and the data space, and what an
-- entry does.
use Rattle.std.proofs.Common.{◌≡◌, ℕ, ◌++◌, nat_lt, Bool, true, false, cond, Option, Some, None, List, sym, ap, ◌∙◌}
use Rattle.std.specs.Prelude.{Result}
use Rattle.avr_base.specs.declared.stop.StopCause.{StopCause}
use Rattle.avr_base.specs.declared.stop.StopCause.TheVariants as stop
use Rattle.avr_decoder.specs.Class.{class_of}
use Rattle.avr_decoder.specs.declared.op.Class.{Class}
use Rattle.avr_decoder.specs.declared.op.Op.{Op}
use Rattle.avr_base.specs.declared.interrupts.Vector.{Vector}
use Rattle.board_io.specs.Board.{clocked}
use Rattle.data_space.specs.declared.bus.Done.{Done}
use Rattle.data_space.specs.declared.cpu.Cpu.{Cpu}
use Rattle.data_space.specs.Sequence.{Outcome}
use Rattle.data_space.specs.Space.{Access}
use Rattle.node_core.specs.declared.row.Kind.TheVariants as kind
use Rattle.node_core.specs.declared.row.Row.{Row}
use Rattle.node_core.specs.declared.bus.NodeBus.{NodeBus}
use Rattle.node_core.specs.declared.machine.Machine.{Machine}
use Rattle.node_core.specs.Bus.{bus_at, with_io}
use Rattle.node_core.specs.Cycle.{acted, acted_rows, after_entry, after_instruction, cpu_cycle, cpu_rows, entered, entered_rows, entry_rows, instructed, instructed_rows, instruction_rows, is_refused, op_now, row}
use Rattle.avr_core.specs.Execute.{executed_over}
use Rattle.node_core.specs.Execute.{executed, executed_by}
use Rattle.node_core.specs.Interrupts.{due, entry}
use Rattle.node_core.specs.Pace.Midway.{IsActed}
use Rattle.node_core.specs.Shown.{shown}
use Rattle.node_core.specs.State.{NodeState}

skip : {A : Type 0} (b : Bool) (p q : A) → b ≡ false → q ≡ cond b p q
skip b p q e = sym (ap (λ (x : Bool). cond x p q) e)

-- the clock of a node that runs shows the cycle already
now_at : (t : ℕ) (m : Machine) → m.bus.io.clock ≡ t → m.bus ≡ bus_at t (shown m)
now_at t m now = λ i. with_io m.bus (clocked (now i) m.bus.io.board)

-- the effect of an instruction, by its class
pub by_class : (k : Class) (flash : List ℕ) (o : Op) (cpu : Cpu) (bus : NodeBus) → class_of o ≡ k → executed_by k flash o cpu bus ≡ executed flash o cpu bus
unfolding executed_over
by_class k flash o cpu bus e = ap (λ (c : Class). executed_by c flash o cpu bus) (sym e)

module _ (t : ℕ) (m : Machine) (o : Op) (fetched : o ≡ op_now (shown m)) (runs : is_refused (shown m) o ≡ false) (now : m.bus.io.clock ≡ t)
    (a : Outcome NodeBus) (flash : List ℕ) (kept : flash ≡ m.program.bytes) (done : a ≡ executed flash o m.cpu m.bus) where
  abbrev s : NodeState
  s = shown m

  fetched_runs : is_refused s (op_now s) ≡ false
  fetched_runs = ap (is_refused s) (sym fetched) ∙ runs

  whole : a ≡ executed s.flash (op_now s) s.cpu (bus_at t s)
  whole = done ∙ (λ i. executed (kept i) (fetched i) m.cpu (now_at t m now i))

  pub ran : (r : Result Done StopCause) → a.result ≡ r → after_instruction s o r a.cpu a.bus ≡ instructed t s
  unfolding instructed
  ran r is =
      (λ i. after_instruction s (fetched i) (sym is i) a.cpu a.bus)
      ∙ (ap (λ (x : Outcome NodeBus). after_instruction s (op_now s) x.result x.cpu x.bus) whole ∙ skip (is_refused s (op_now s)) _ _ fetched_runs)

  pub ran_rows : (l : List Row) (r : Result Done StopCause) → a.result ≡ r → l ++ instruction_rows t s r ≡ l ++ instructed_rows t s
  unfolding instructed_rows
  ran_rows l r is =
      ap (λ (x : Result Done StopCause). l ++ instruction_rows t s x) (sym is)
      ∙ (ap (λ (x : Outcome NodeBus). l ++ instruction_rows t s x.result) whole ∙ ap (λ (k : List Row). l ++ k) (skip (is_refused s (op_now s)) _ _ fetched_runs))

-- an interrupt that is let in
module _ (t wait : ℕ) (v : Vector) (m : Machine) (now : m.bus.io.clock ≡ t) (a : Access (Unit {0}) NodeBus) (done : a ≡ entry v.word m.cpu m.bus) where
  here : a ≡ entry v.word m.cpu (bus_at t (shown m))
  here = done ∙ ap (entry v.word m.cpu) (now_at t m now)

  pub let_in : (r : Result (Unit {0}) StopCause) → a.result ≡ r → after_entry wait v (shown m) a r ≡ entered t wait v (shown m)
  unfolding entered
  let_in r is = ap (after_entry wait v (shown m) a) (sym is) ∙ ap (λ (x : Access (Unit {0}) NodeBus). after_entry wait v (shown m) x x.result) here

  pub let_in_rows : (l : List Row) (r : Result (Unit {0}) StopCause) → a.result ≡ r → l ++ entry_rows t v (shown m) r ≡ l ++ entered_rows t v (shown m)
  unfolding entered_rows
  let_in_rows l r is =
      ap (λ (x : Result (Unit {0}) StopCause). l ++ entry_rows t v (shown m) x) (sym is) ∙ ap (λ (x : Access (Unit {0}) NodeBus). l ++ entry_rows t v (shown m) x.result) here

taken : {A : Type 0} (b : Bool) (p q : A) → b ≡ true → p ≡ cond b p q
taken b p q e = sym (ap (λ (x : Bool). cond x p q) e)

-- an act in equal terms
pub acted_as : (n : ℕ) (u w : NodeState) (k l : List Row) (old new : Machine) → u ≡ w → k ≡ l → IsActed n u k old new → IsActed n w l old new
acted_as n u w k l old new state rows h = record {
  state = h.state ∙ state;
  rows = h.rows ∙ ap (λ (r : List Row). old.rows.items ++ r) rows;
  going = h.going;
  room = h.room;
  clock = h.clock;
}

-- SLEEP in a mode other than idle
module _ (t : ℕ) (s : NodeState) (o : Op) (fetched : o ≡ op_now s) (is : is_refused s o ≡ true) where
  refused_now : is_refused s (op_now s) ≡ true
  refused_now = ap (is_refused s) (sym fetched) ∙ is

  pub refused : (let u : NodeState = record s { stop = Some stop.SleepMode } in u) ≡ instructed t s
  unfolding instructed
  refused = taken (is_refused s (op_now s)) _ _ refused_now

  pub refused_rows : row t s (kind.Stop s.cpu.pc stop.SleepMode) ≡ instructed_rows t s
  unfolding instructed_rows
  refused_rows = taken (is_refused s (op_now s)) _ _ refused_now

-- what the processor does that neither waits nor sleeps, by what is due and whether an instruction is owed
abbrev pub Part : ℕ → NodeState → NodeState → List Row → Type 0
Part t s u k = (u ≡ cpu_cycle t s) × (k ≡ cpu_rows t s)

module _ (t : ℕ) (s : NodeState) (free : s.wait ≡ 0) (awake : s.asleep ≡ false) where
  idles_not : nat_lt 0 s.wait ≡ false
  idles_not = ap (nat_lt 0) free

  part : (o : Option Vector) (u : NodeState) (k : List Row) → due s ≡ o → u ≡ acted t s o → k ≡ acted_rows t s o → Part t s u k
  unfolding cpu_cycle cpu_rows
  part o u k is state rows = (
    state ∙ (ap (acted t s) (sym is) ∙ skip (nat_lt 0 s.wait) _ _ idles_not),
    rows ∙ (ap (acted_rows t s) (sym is) ∙ skip (nat_lt 0 s.wait) _ _ idles_not),
  )

  pub lets_in : (v : Vector) → due s ≡ Some v → s.owed ≡ false → Part t s (entered t 3 v s) (entered_rows t v s)
  lets_in v is free =
      part (Some v) _ _ is (skip s.owed _ _ free ∙ skip s.asleep _ _ awake) (skip s.owed _ _ free ∙ skip s.asleep _ _ awake)

  pub goes_on_owed : (v : Vector) → due s ≡ Some v → s.owed ≡ true → Part t s (instructed t s) (instructed_rows t s)
  goes_on_owed v is owed =
      part (Some v) _ _ is (taken s.owed _ _ owed ∙ skip s.asleep _ _ awake) (taken s.owed _ _ owed ∙ skip s.asleep _ _ awake)

  pub goes_on : due s ≡ None → Part t s (instructed t s) (instructed_rows t s)
  goes_on is = part None _ _ is (skip s.asleep _ _ awake) (skip s.asleep _ _ awake)
