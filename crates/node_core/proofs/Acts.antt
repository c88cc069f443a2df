-- The processor's part of a cycle: what arrives is as it was, at most one instruction more is counted, and at most one
-- row is told.
use Rattle.std.proofs.Common.{◌≡◌, ℕ, ◌+◌, ◌≤◌, ◌&&◌, ◌++◌, nat_le, nat_lt, Bool, true, false, cond, Option, Some, None, List, [], length, length-append, refl, sym, subst, ◌∙◌, ap, arith}
use Rattle.std.specs.Prelude.{Result, Ok, Err}
use Rattle.avr_base.specs.declared.interrupts.Vector.{Vector}
use Rattle.avr_base.specs.declared.stop.StopCause.{StopCause}
use Rattle.avr_decoder.specs.declared.op.Op.{Op}
use Rattle.data_space.specs.declared.bus.Done.{Done}
use Rattle.data_space.specs.declared.cpu.Cpu.{Cpu}
use Rattle.data_space.specs.Space.{Access}
use Rattle.node_core.specs.declared.row.Kind.{Kind as RowKind}
use Rattle.node_core.specs.declared.row.Row.{Row}
use Rattle.node_core.specs.declared.bus.NodeBus.{NodeBus}
use Rattle.node_core.specs.Bus.{bus_at}
use Rattle.node_core.specs.Cycle.{acted, acted_rows, after_entry, after_instruction, cpu_cycle, cpu_rows, entered, entered_rows, entry_rows, instructed, instructed_rows, instruction_rows, is_refused, op_now, row, row_within}
use Rattle.node_core.specs.Execute.{executed}
use Rattle.node_core.specs.Interrupts.{due, entry}
use Rattle.node_core.specs.State.{NodeState}

abbrev Acts : NodeState → NodeState → Type 0
Acts s u = (u.script ≡ s.script) × (u.count ≤ s.count + 1)

acts_case : (s : NodeState) (b : Bool) (p q : NodeState) → Acts s p → Acts s q → Acts s (cond b p q)
acts_case s true p q h k = h
acts_case s false p q h k = k

after_acts : (s : NodeState) (o : Op) (r : Result Done StopCause) (cpu : Cpu) (bus : NodeBus) → Acts s (after_instruction s o r cpu bus)
after_acts s o (Ok d) cpu bus = (refl, omega arith)
after_acts s o (Err cause) cpu bus = (refl, omega arith)

after_entry_acts : (wait : ℕ) (v : Vector) (s : NodeState) (a : Access (Unit {0}) NodeBus) (r : Result (Unit {0}) StopCause) → Acts s (after_entry wait v s a r)
after_entry_acts wait v s a (Ok done) = (refl, omega arith)
after_entry_acts wait v s a (Err cause) = (refl, omega arith)

instructed_acts : (t : ℕ) (s : NodeState) → Acts s (instructed t s)
unfolding instructed
instructed_acts t s =
    let o = executed s.flash (op_now s) s.cpu (bus_at t s) in
    acts_case s (is_refused s (op_now s)) _ _ (refl, omega arith) (after_acts s (op_now s) o.result o.cpu o.bus)

entered_acts : (t wait : ℕ) (v : Vector) (s : NodeState) → Acts s (entered t wait v s)
unfolding entered
entered_acts t wait v s = let a = entry v.word s.cpu (bus_at t s) in after_entry_acts wait v s a a.result

acted_acts : (t : ℕ) (s : NodeState) (o : Option Vector) → Acts s (acted t s o)
acted_acts t s None = acts_case s s.asleep _ _ (refl, omega arith) (instructed_acts t s)
acted_acts t s (Some v) = acts_case s s.asleep _ _ (entered_acts t 7 v s) (acts_case s s.owed _ _ (instructed_acts t s) (entered_acts t 3 v s))

cpu_acts : (t : ℕ) (s : NodeState) → Acts s (cpu_cycle t s)
unfolding cpu_cycle
cpu_acts t s = acts_case s (nat_lt 0 s.wait) _ _ (refl, omega arith) (acted_acts t s (due s))

few_case : (b : Bool) (k l : List Row) → length k ≤ 1 → length l ≤ 1 → length (cond b k l) ≤ 1
few_case true k l h i = h
few_case false k l h i = i

within_few : (t : ℕ) (s : NodeState) (kind : RowKind) → length (row_within t s kind) ≤ 1
within_few t s kind = few_case (nat_le s.from t && nat_lt t s.to) (row t s kind) [] (omega arith) (omega arith)

instruction_few : (t : ℕ) (s : NodeState) (r : Result Done StopCause) → length (instruction_rows t s r) ≤ 1
instruction_few t s (Ok d) = within_few t s _
instruction_few t s (Err cause) = omega arith

instructed_few : (t : ℕ) (s : NodeState) → length (instructed_rows t s) ≤ 1
unfolding instructed_rows
instructed_few t s = few_case (is_refused s (op_now s)) _ _ (omega arith) (instruction_few t s (executed s.flash (op_now s) s.cpu (bus_at t s)).result)

entry_few : (t : ℕ) (v : Vector) (s : NodeState) (r : Result (Unit {0}) StopCause) → length (entry_rows t v s r) ≤ 1
entry_few t v s (Ok done) = within_few t s _
entry_few t v s (Err cause) = omega arith

entered_few : (t : ℕ) (v : Vector) (s : NodeState) → length (entered_rows t v s) ≤ 1
unfolding entered_rows
entered_few t v s = entry_few t v s (entry v.word s.cpu (bus_at t s)).result

acted_few : (t : ℕ) (s : NodeState) (o : Option Vector) → length (acted_rows t s o) ≤ 1
acted_few t s None = few_case s.asleep _ _ (omega arith) (instructed_few t s)
acted_few t s (Some v) = few_case s.asleep _ _ (entered_few t v s) (few_case s.owed _ _ (instructed_few t s) (entered_few t v s))

cpu_few : (t : ℕ) (s : NodeState) → length (cpu_rows t s) ≤ 1
unfolding cpu_rows
cpu_few t s = few_case (nat_lt 0 s.wait) _ _ (omega arith) (acted_few t s (due s))

-- what a node is that stands behind the processor's part
module _ (t : ℕ) (s u : NodeState) (part : u ≡ cpu_cycle t s) where
  pub arrives_still : u.script ≡ s.script
  arrives_still = subst (λ (x : NodeState). x.script ≡ s.script) (sym part) (cpu_acts t s).0

  pub one_more : u.count ≤ s.count + 1
  one_more = subst (λ (x : NodeState). x.count ≤ s.count + 1) (sym part) (cpu_acts t s).1

pub one_row : (t : ℕ) (s : NodeState) (l k : List Row) → k ≡ l ++ cpu_rows t s → length k ≤ length l + 1
one_row t s l k told =
    let long : length k ≡ length l + length (cpu_rows t s) = ap length told ∙ length-append l (cpu_rows t s) in
    let few = cpu_few t s in
    omega (arith, long, few)
