-- The sends that a run's rows tell are those of its air.
use Rattle.std.proofs.Common.{◌≡◌, ℕ, zero, suc, ◌+◌, ◌-◌, nat_lt, ◌&&◌, nat_le, Bool, true, false, cond, Option, Some, None, is_some, List, [], ◌∷◌, ◌++◌, refl, ap, ◌∙◌, append-nil}
use Rattle.std.specs.Prelude.{Result, Ok, Err}
use Rattle.std.proofs.lemmas.List.Elements.{filter_map-append}
use Rattle.avr_base.specs.declared.stop.StopCause.{StopCause}
use Rattle.avr_base.specs.declared.interrupts.Vector.{Vector}
use Rattle.board_io.specs.Cycle.{board_sends, board_serial}
use Rattle.data_space.specs.declared.bus.Done.{Done}
use Rattle.air_base.specs.declared.air.Heard.{Heard}
use Rattle.air_base.specs.declared.air.Send.{Send}
use Rattle.air_base.specs.Each.{each_below}
use Rattle.air_base.specs.NodeKind.{ticked_rows}
use Rattle.world_core.specs.Order.{Fleet, facts_of, hears, node_at, run_rows, send_of, world_after, world_at, end_rows}
use Rattle.air_base.proofs.Each.{each_none, each_same}
use Rattle.node_core.specs.declared.row.Row.{Row}
use Rattle.node_core.specs.Bus.{bus_at}
use Rattle.node_core.specs.State.{NodeState}
use Rattle.node_core.specs.Execute.{executed}
use Rattle.node_core.specs.Interrupts.{due, entry}
use Rattle.node_core.specs.Cycle.{acted_rows, asks_in, begun_in, begun_rows, cpu_cycle, cpu_rows, device_rows, entered_rows, entry_rows, finished_rows, instructed_rows, instruction_rows, is_refused, node_kind, op_now, sends_after, sends_in, sent_rows, serial_rows}
use Rattle.node_runner.specs.Scenario.{ScenarioOf, fleet_of}
use Rattle.run_reports.specs.Frames.{send_told, sends_told}
use Rattle.run_reports.proofs.Given.{cpu_same, given_after}

pub told_none : sends_told [] ≡ []
unfolding sends_told
told_none = refl

pub told_both : (before rows : List Row) → sends_told (before ++ rows) ≡ sends_told before ++ sends_told rows
unfolding sends_told
told_both before rows = filter_map-append send_told before rows

-- rows that tell of no send
abbrev Silent : List Row → Type 0
Silent rows = sends_told rows ≡ []

silent_case : (b : Bool) (x y : List Row) → Silent x → Silent y → Silent (cond b x y)
silent_case true x y h k = h
silent_case false x y h k = k

silent_instruction : (t : ℕ) (s : NodeState) (r : Result Done StopCause) → Silent (instruction_rows t s r)
unfolding sends_told
silent_instruction t s (Ok d) = silent_case (nat_le s.from t && nat_lt t s.to) _ [] refl refl
silent_instruction t s (Err cause) = refl

silent_instructed : (t : ℕ) (s : NodeState) → Silent (instructed_rows t s)
unfolding instructed_rows sends_told
silent_instructed t s =
    silent_case (is_refused s (op_now s)) _ _ refl (silent_instruction t s (executed s.flash (op_now s) s.cpu (bus_at t s)).result)

silent_entry : (t : ℕ) (v : Vector) (s : NodeState) (r : Result (Unit {0}) StopCause) → Silent (entry_rows t v s r)
unfolding sends_told
silent_entry t v s (Ok done) = silent_case (nat_le s.from t && nat_lt t s.to) _ [] refl refl
silent_entry t v s (Err cause) = refl

silent_entered : (t : ℕ) (v : Vector) (s : NodeState) → Silent (entered_rows t v s)
unfolding entered_rows
silent_entered t v s = silent_entry t v s (entry v.word s.cpu (bus_at t s)).result

silent_acted : (t : ℕ) (s : NodeState) (o : Option Vector) → Silent (acted_rows t s o)
silent_acted t s None = silent_case s.asleep [] _ told_none (silent_instructed t s)
silent_acted t s (Some v) = silent_case s.asleep _ _ (silent_entered t v s) (silent_case s.owed _ _ (silent_instructed t s) (silent_entered t v s))

silent_cpu : (t : ℕ) (s : NodeState) → Silent (cpu_rows t s)
unfolding cpu_rows
silent_cpu t s = silent_case (nat_lt 0 s.wait) [] _ told_none (silent_acted t s (due s))

silent_serial : (t : ℕ) (s : NodeState) (o : Option ℕ) → Silent (serial_rows t s o)
unfolding sends_told
silent_serial t s None = refl
silent_serial t s (Some byte) = refl

told_sent : (t : ℕ) (s : NodeState) (o : Option ℕ) → sends_told (sent_rows t s o) ≡ send_of t s.number o
unfolding sends_told
told_sent t s None = refl
told_sent t s (Some byte) = refl

device_case : (b : Bool) (t : ℕ) (s : NodeState) (serial sent : Option ℕ) → sends_told (cond b [] (serial_rows t s serial ++ sent_rows t s sent)) ≡ send_of t s.number (cond b None sent)
device_case true t s serial sent = told_none
device_case false t s serial sent = told_both (serial_rows t s serial) (sent_rows t s sent) ∙ (λ i. silent_serial t s serial i ++ told_sent t s sent i)

told_device : (t : ℕ) (s : NodeState) → sends_told (device_rows t s) ≡ send_of t s.number (sends_after t s)
unfolding device_rows sends_after
told_device t s = device_case (is_some s.stop) t s (board_serial t s.board) (board_sends t s.board)

begun_case : (b : Bool) (t k : ℕ) (s : NodeState) → s.number ≡ k → sends_told (cond b [] (cpu_rows t s ++ device_rows t (cpu_cycle t s))) ≡ send_of t k (cond b None (sends_after t (cpu_cycle t s)))
begun_case true t k s e = told_none
begun_case false t k s e =
    told_both (cpu_rows t s) (device_rows t (cpu_cycle t s)) ∙ (λ i. silent_cpu t s i ++ told_device t (cpu_cycle t s) i)
    ∙ ap (λ (n : ℕ). send_of t n (sends_after t (cpu_cycle t s))) ((cpu_same t s).number ∙ e)

told_begun : (t k : ℕ) (s : NodeState) → s.number ≡ k → sends_told (begun_rows t s) ≡ send_of t k (sends_in t s)
unfolding begun_rows sends_in
told_begun t k s e = begun_case (is_some s.stop) t k s e

silent_finished : (t : ℕ) (s : NodeState) (h : Heard) → Silent (finished_rows t s h)
unfolding sends_told
silent_finished t s h = refl

-- the rows of a cycle tell what the node sends in it
told_cycle : (t k : ℕ) (s : NodeState) (h : Heard) → s.number ≡ k → sends_told (ticked_rows node_kind t s h) ≡ send_of t k (sends_in t s)
told_cycle t k s h e =
    told_both (begun_rows t s) (cond (asks_in t s) (finished_rows t (begun_in t s) h) [])
    ∙ (λ i. told_begun t k s e i ++ silent_case (asks_in t s) (finished_rows t (begun_in t s) h) [] (silent_finished t (begun_in t s) h) told_none i)
    ∙ append-nil (send_of t k (sends_in t s))

told_each : (n : ℕ) (g : ℕ → List Row) → sends_told (each_below n g) ≡ each_below n (λ k. sends_told (g k))
told_each zero g = told_none
told_each (suc n) g = told_both (each_below n g) (g n) ∙ ap (λ (l : List Send). l ++ sends_told (g n)) (told_each n g)

told_after : (sc : ScenarioOf) (n : ℕ) → sends_told (world_after (fleet_of sc) n).rows ≡ (world_after (fleet_of sc) n).sends
unfolding world_after
told_after sc zero = told_none
told_after sc (suc n) =
    let f : Fleet NodeState Row = fleet_of sc in
    let t : ℕ = f.start + n in
    let w = world_after f n in
    told_both w.rows (each_below f.topo.nodes (λ k. ticked_rows f.kind t (w.state k) (hears f t w k)))
    ∙ (λ i. told_after sc n i ++ (told_each f.topo.nodes (λ k. ticked_rows f.kind t (w.state k) (hears f t w k))
    ∙ each_same f.topo.nodes _ _ (λ k lt. told_cycle t k (w.state k) (hears f t w k) (given_after sc k n).number)) i)

silent_end : (limit : ℕ) (s : NodeState) → Silent (node_kind.end_row limit s ∷ [])
unfolding sends_told
silent_end limit s = refl

pub told_run : (sc : ScenarioOf) → sends_told (run_rows (fleet_of sc)) ≡ (facts_of (fleet_of sc)).sends
told_run sc =
    let f : Fleet NodeState Row = fleet_of sc in
    told_both (world_at f f.topo.limit).rows (end_rows f)
    ∙ (λ i. told_after sc (f.topo.limit - f.start) i ++ (told_each f.topo.nodes (λ k. f.kind.end_row f.topo.limit (node_at f k f.topo.limit) ∷ [])
    ∙ each_none f.topo.nodes _ (λ k lt. silent_end f.topo.limit (node_at f k f.topo.limit))) i)
    ∙ append-nil (facts_of f).sends
