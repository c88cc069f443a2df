-- What a cycle leaves of a node's state: its number, and the end of its window.
use Rattle.std.proofs.Common.{◌≡◌, ℕ, zero, suc, ◌+◌, nat_lt, Bool, true, false, cond, Option, Some, None, is_some, refl, ◌∙◌}
use Rattle.std.specs.Prelude.{Result, Ok, Err}
use Rattle.avr_base.specs.declared.stop.StopCause.{StopCause}
use Rattle.avr_base.specs.declared.interrupts.Vector.{Vector}
use Rattle.avr_decoder.specs.declared.op.Op.{Op}
use Rattle.data_space.specs.declared.bus.Done.{Done}
use Rattle.data_space.specs.declared.cpu.Cpu.{Cpu}
use Rattle.data_space.specs.Space.{Access}
use Rattle.air_base.specs.declared.air.Heard.{Heard}
use Rattle.world_core.specs.Order.{world_after, hears}
use Rattle.node_core.specs.declared.bus.NodeBus.{NodeBus}
use Rattle.node_core.specs.Bus.{bus_at}
use Rattle.node_core.specs.State.{NodeState}
use Rattle.node_core.specs.Execute.{executed}
use Rattle.node_core.specs.Interrupts.{due, entry}
use Rattle.node_core.specs.Cycle.{acted, after_entry, after_instruction, asks_in, begun_in, cpu_cycle, devices_cycle, entered, finished_in, instructed, is_refused, op_now}
use Rattle.node_runner.specs.Scenario.{ScenarioOf, fleet_of}

-- one state was given what another one was
pub record Same (s u : NodeState) : Type 0 where
  pub number : u.number ≡ s.number
  pub to : u.to ≡ s.to

same_case : (s : NodeState) (b : Bool) (p q : NodeState) → Same s p → Same s q → Same s (cond b p q)
same_case s true p q h k = h
same_case s false p q h k = k

itself : (s : NodeState) → Same s s
itself s = record { number = refl; to = refl }

after_same : (s : NodeState) (o : Op) (r : Result Done StopCause) (cpu : Cpu) (bus : NodeBus) → Same s (after_instruction s o r cpu bus)
after_same s o (Ok d) cpu bus = record { number = refl; to = refl }
after_same s o (Err cause) cpu bus = record { number = refl; to = refl }

instructed_same : (t : ℕ) (s : NodeState) → Same s (instructed t s)
unfolding instructed
instructed_same t s =
    let o = executed s.flash (op_now s) s.cpu (bus_at t s) in
    same_case s (is_refused s (op_now s)) _ _ (record { number = refl; to = refl }) (after_same s (op_now s) o.result o.cpu o.bus)

after_entry_same : (wait : ℕ) (v : Vector) (s : NodeState) (a : Access (Unit {0}) NodeBus) (r : Result (Unit {0}) StopCause) → Same s (after_entry wait v s a r)
after_entry_same wait v s a (Ok done) = record { number = refl; to = refl }
after_entry_same wait v s a (Err cause) = record { number = refl; to = refl }

entered_same : (t wait : ℕ) (v : Vector) (s : NodeState) → Same s (entered t wait v s)
unfolding entered
entered_same t wait v s = let a = entry v.word s.cpu (bus_at t s) in after_entry_same wait v s a a.result

acted_same : (t : ℕ) (s : NodeState) (o : Option Vector) → Same s (acted t s o)
acted_same t s None = same_case s s.asleep _ _ (itself s) (instructed_same t s)
acted_same t s (Some v) = same_case s s.asleep _ _ (entered_same t 7 v s) (same_case s s.owed _ _ (instructed_same t s) (entered_same t 3 v s))

pub cpu_same : (t : ℕ) (s : NodeState) → Same s (cpu_cycle t s)
unfolding cpu_cycle
cpu_same t s = same_case s (nat_lt 0 s.wait) _ _ (record { number = refl; to = refl }) (acted_same t s (due s))

devices_same : (t : ℕ) (s u : NodeState) → Same s u → Same s (devices_cycle t u)
unfolding devices_cycle
devices_same t s u h = same_case s (is_some u.stop) _ _ h (record { number = h.number; to = h.to })

begun_same : (t : ℕ) (s : NodeState) → Same s (begun_in t s)
unfolding begun_in
begun_same t s = same_case s (is_some s.stop) _ _ (itself s) (devices_same t s (cpu_cycle t s) (cpu_same t s))

ticked_same : (t : ℕ) (s : NodeState) (h : Heard) → Same s (cond (asks_in t s) (finished_in t (begun_in t s) h) (begun_in t s))
ticked_same t s h =
    let b = begun_same t s in
    same_case s (asks_in t s) _ _ (record { number = b.number; to = b.to }) b

-- in every cycle of a run a node has the number and the window that it began with
pub record IsGiven (sc : ScenarioOf) (k : ℕ) (s : NodeState) : Type 0 where
  pub number : s.number ≡ k
  pub to : s.to ≡ sc.to

pub given_after : (sc : ScenarioOf) (k n : ℕ) → IsGiven sc k ((world_after (fleet_of sc) n).state k)
unfolding world_after
given_after sc k zero = record { number = refl; to = refl }
given_after sc k (suc n) =
    let f = fleet_of sc in
    let s : NodeState = (world_after f n).state k in
    let h = ticked_same (f.start + n) s (hears f (f.start + n) (world_after f n) k) in
    let g = given_after sc k n in
    record { number = h.number ∙ g.number; to = h.to ∙ g.to }
