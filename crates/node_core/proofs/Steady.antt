-- This kind of node keeps what the order of all nodes asks.
use Rattle.std.proofs.Common.{◌≡◌, ℕ, nat_lt, Bool, true, false, cond, Option, Some, None, List, [], ◌∷◌, ◌++◌, is_some, refl, ap, ◌&&◌}
use Rattle.std.specs.Prelude.{nat_le, Result, Ok, Err}
use Rattle.std.specs.List.{All}
use Rattle.std.proofs.lemmas.List.Elements.{All-nil, All-cons, All-append}
use Rattle.avr_base.specs.declared.stop.StopCause.{StopCause}
use Rattle.board_io.specs.Cycle.{board_sends, board_serial}
use Rattle.data_space.specs.declared.bus.Done.{Done}
use Rattle.avr_base.specs.declared.interrupts.Vector.{Vector}
use Rattle.node_core.specs.declared.row.Row.{Row}
use Rattle.node_core.specs.declared.row.Kind.{Kind as RowKind}
use Rattle.air_base.specs.NodeKind.{IsSteady}
use Rattle.node_core.specs.Bus.{bus_at}
use Rattle.node_core.specs.State.{NodeState}
use Rattle.node_core.specs.Execute.{executed}
use Rattle.node_core.specs.Interrupts.{due, entry}
use Rattle.node_core.specs.Cycle.{node_kind, acted_rows, asks_after, asks_in, begun_in, begun_rows, cpu_cycle, cpu_rows, device_rows, devices_cycle, entered_rows, entry_rows, instructed_rows, instruction_rows, is_refused, op_now, row, row_within, sends_after, sends_in, sent_rows, serial_rows}
use Rattle.node_core.proofs.Radio.{apart, free_begun, free_finished, gap_begun, gap_finished, sends_free, sends_next, stopped_asks, stopped_begun, stopped_sends}

mute : (t : ℕ) (s : NodeState) → is_some s.stop ≡ true → begun_rows t s ≡ []
unfolding begun_rows
mute t s e = ap (λ (b : Bool). cond b [] (cpu_rows t s ++ device_rows t (cpu_cycle t s))) e

-- a property of lists of rows that holds of none and of one of a cycle holds of a cycle's rows
module _ (P : List Row → Type 0) (t : ℕ) (none : P []) (one : (r : Row) → r.cycle ≡ t → P (r ∷ [])) (both : (a b : List Row) → P a → P b → P (a ++ b)) where
  case_of : (b : Bool) (x y : List Row) → P x → P y → P (cond b x y)
  case_of true x y p q = p
  case_of false x y p q = q

  within_is : (s : NodeState) (k : RowKind) → P (row_within t s k)
  within_is s k = case_of (nat_le s.from t && nat_lt t s.to) (row t s k) [] (one (record { cycle = t; node = s.number; kind = k }) refl) none

  instruction_is : (s : NodeState) (r : Result Done StopCause) → P (instruction_rows t s r)
  instruction_is s (Ok d) = within_is s _
  instruction_is s (Err cause) = one _ refl

  instructed_is : (s : NodeState) → P (instructed_rows t s)
  unfolding instructed_rows
  instructed_is s = case_of (is_refused s (op_now s)) _ _ (one _ refl) (instruction_is s (executed s.flash (op_now s) s.cpu (bus_at t s)).result)

  entry_is : (v : Vector) (s : NodeState) (r : Result (Unit {0}) StopCause) → P (entry_rows t v s r)
  entry_is v s (Ok done) = within_is s _
  entry_is v s (Err cause) = one _ refl

  entered_is : (v : Vector) (s : NodeState) → P (entered_rows t v s)
  unfolding entered_rows
  entered_is v s = entry_is v s (entry v.word s.cpu (bus_at t s)).result

  acted_is : (s : NodeState) (o : Option Vector) → P (acted_rows t s o)
  acted_is s None = case_of s.asleep [] (instructed_rows t s) none (instructed_is s)
  acted_is s (Some v) = case_of s.asleep _ _ (entered_is v s) (case_of s.owed _ _ (instructed_is s) (entered_is v s))

  cpu_is : (s : NodeState) → P (cpu_rows t s)
  unfolding cpu_rows
  cpu_is s = case_of (nat_lt 0 s.wait) [] (acted_rows t s (due s)) none (acted_is s (due s))

  serial_is : (s : NodeState) (o : Option ℕ) → P (serial_rows t s o)
  serial_is s None = none
  serial_is s (Some b) = one _ refl

  sent_is : (s : NodeState) (o : Option ℕ) → P (sent_rows t s o)
  sent_is s None = none
  sent_is s (Some b) = one _ refl

  device_is : (s : NodeState) → P (device_rows t s)
  unfolding device_rows
  device_is s = case_of (is_some s.stop) [] _ none (both (serial_rows t s (board_serial t s.board)) (sent_rows t s (board_sends t s.board)) (serial_is s (board_serial t s.board)) (sent_is s (board_sends t s.board)))

  pub begun_is : (s : NodeState) → P (begun_rows t s)
  unfolding begun_rows
  begun_is s = case_of (is_some s.stop) [] _ none (both (cpu_rows t s) (device_rows t (cpu_cycle t s)) (cpu_is s) (device_is (cpu_cycle t s)))

abbrev Bears : ℕ → List Row → Type 0
Bears t rows = All (λ r. r.cycle ≡ t) rows

bears_none : (t : ℕ) → Bears t []
bears_none t = All-nil (λ (x : Row). x.cycle ≡ t)

bears_one : (t : ℕ) (r : Row) → r.cycle ≡ t → Bears t (r ∷ [])
bears_one t r e = All-cons (λ (x : Row). x.cycle ≡ t) r [] e (bears_none t)

pub steady : IsSteady node_kind
steady = record {
  stays = stopped_begun;
  mute = mute;
  deaf = stopped_asks;
  silent = stopped_sends;
  apart = apart;
  begun_rows = λ t s. begun_is (Bears t) t (bears_none t) (bears_one t) (All-append (λ (x : Row). x.cycle ≡ t)) s;
  finished_rows = λ t s h. bears_one t _ refl;
  free = λ s. s.board.radio.free;
  gap = λ s. s.board.radio.byte_time;
  gap_begun = gap_begun;
  gap_finished = gap_finished;
  free_begun = free_begun;
  free_finished = free_finished;
  sends_free = sends_free;
  sends_next = sends_next;
}

-- the byte time that it was made with is that of its radio
pub steady_gap : (s : NodeState) → steady.gap s ≡ s.board.radio.byte_time
unfolding steady
steady_gap s = refl
