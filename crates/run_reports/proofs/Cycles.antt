-- The rows of one cycle of a node: few, and those that are traced lie in the window.
use Rattle.std.proofs.Common.{◌≡◌, ℕ, ◌+◌, ◌<◌, ◌≤◌, ◌&&◌, nat_le, nat_lt, Bool, true, false, cond, Option, Some, None, is_some, List, [], ◌∷◌, ◌++◌, length, length-append, refl, arith}
use Rattle.std.specs.Prelude.{Result, Ok, Err}
use Rattle.std.specs.List.{All}
use Rattle.std.proofs.lemmas.Bool.Decides.{nat_tests}
use Rattle.std.proofs.lemmas.List.Elements.{All-append, All-cons, All-nil}
use Rattle.avr_base.specs.declared.stop.StopCause.{StopCause}
use Rattle.avr_base.specs.declared.interrupts.Vector.{Vector}
use Rattle.board_io.specs.Cycle.{board_sends, board_serial}
use Rattle.data_space.specs.declared.bus.Done.{Done}
use Rattle.air_base.specs.declared.air.Heard.{Heard}
use Rattle.air_base.specs.NodeKind.{ticked_rows}
use Rattle.node_core.specs.declared.row.Row.{Row}
use Rattle.node_core.specs.declared.row.Kind.{Kind}
use Rattle.node_core.specs.Bus.{bus_at}
use Rattle.node_core.specs.State.{NodeState}
use Rattle.node_core.specs.Execute.{executed}
use Rattle.node_core.specs.Interrupts.{due, entry}
use Rattle.node_core.specs.Cycle.{acted_rows, asks_in, begun_in, begun_rows, cpu_cycle, cpu_rows, device_rows, entered_rows, entry_rows, finished_rows, instructed_rows, instruction_rows, is_refused, node_kind, op_now, row, row_within, sent_rows, serial_rows}
use Rattle.node_core.proofs.Acts.{one_row}
use Rattle.node_monitors.specs.Matters.{is_traced, IsBelow}

-- ---- how many

few_case : (n : ℕ) (b : Bool) (x y : List Row) → length x ≤ n → length y ≤ n → length (cond b x y) ≤ n
few_case n true x y h k = h
few_case n false x y h k = k

few_both : (m n : ℕ) (x y : List Row) → length x ≤ m → length y ≤ n → length (x ++ y) ≤ m + n
few_both m n x y h k = let e = length-append x y in omega arith

serial_few : (t : ℕ) (s : NodeState) (o : Option ℕ) → length (serial_rows t s o) ≤ 1
serial_few t s None = omega arith
serial_few t s (Some byte) = omega arith

sent_few : (t : ℕ) (s : NodeState) (o : Option ℕ) → length (sent_rows t s o) ≤ 1
sent_few t s None = omega arith
sent_few t s (Some byte) = omega arith

device_few : (t : ℕ) (s : NodeState) → length (device_rows t s) ≤ 2
unfolding device_rows
device_few t s =
    few_case 2 (is_some s.stop) [] _ (omega arith)
    (few_both 1 1 (serial_rows t s (board_serial t s.board)) (sent_rows t s (board_sends t s.board)) (serial_few t s (board_serial t s.board)) (sent_few t s (board_sends t s.board)))

begun_few : (t : ℕ) (s : NodeState) → length (begun_rows t s) ≤ 3
unfolding begun_rows
begun_few t s =
    few_case 3 (is_some s.stop) [] _ (omega arith)
    (few_both 1 2 (cpu_rows t s) (device_rows t (cpu_cycle t s)) (one_row t s [] (cpu_rows t s) refl) (device_few t (cpu_cycle t s)))

pub cycle_few : (t : ℕ) (s : NodeState) (h : Heard) → length (ticked_rows node_kind t s h) ≤ 4
cycle_few t s h =
    few_both 3 1 (begun_rows t s) (cond (asks_in t s) (finished_rows t (begun_in t s) h) []) (begun_few t s)
    (few_case 1 (asks_in t s) (finished_rows t (begun_in t s) h) [] (omega arith) (omega arith))

-- ---- where those lie that are traced

module _ (end : ℕ) where
  abbrev AllBelow : List Row → Type 0
  AllBelow rows = All (IsBelow end) rows

  below_case : (b : Bool) (x y : List Row) → AllBelow x → AllBelow y → AllBelow (cond b x y)
  below_case true x y h k = h
  below_case false x y h k = k

  below_one : (r : Row) → IsBelow end r → AllBelow (r ∷ [])
  below_one r h = All-cons (IsBelow end) r [] h (All-nil (IsBelow end))

  -- a row that is not traced
  below_other : (r : Row) → is_traced r.kind ≡ false → AllBelow (r ∷ [])
  below_other r e = below_one r (λ h. absurd (cc))

  below_if : (b : Bool) (t : ℕ) (s : NodeState) (k : Kind) → (b ≡ true → t < end) → AllBelow (cond b (row t s k) [])
  below_if true t s k h = below_one _ (λ e. h refl)
  below_if false t s k h = All-nil (IsBelow end)

  in_window : (from to t : ℕ) → to ≡ end → (nat_le from t && nat_lt t to) ≡ true → t < end
  in_window from to t e h = grind (arith, nat_tests)

  below_within : (t : ℕ) (s : NodeState) (k : Kind) → s.to ≡ end → AllBelow (row_within t s k)
  below_within t s k e = below_if (nat_le s.from t && nat_lt t s.to) t s k (in_window s.from s.to t e)

  below_instruction : (t : ℕ) (s : NodeState) (r : Result Done StopCause) → s.to ≡ end → AllBelow (instruction_rows t s r)
  below_instruction t s (Ok d) e = below_within t s _ e
  below_instruction t s (Err cause) e = below_other _ refl

  below_instructed : (t : ℕ) (s : NodeState) → s.to ≡ end → AllBelow (instructed_rows t s)
  unfolding instructed_rows
  below_instructed t s e =
      below_case (is_refused s (op_now s)) _ _ (below_other _ refl) (below_instruction t s (executed s.flash (op_now s) s.cpu (bus_at t s)).result e)

  below_entry : (t : ℕ) (v : Vector) (s : NodeState) (r : Result (Unit {0}) StopCause) → s.to ≡ end → AllBelow (entry_rows t v s r)
  below_entry t v s (Ok done) e = below_within t s _ e
  below_entry t v s (Err cause) e = below_other _ refl

  below_entered : (t : ℕ) (v : Vector) (s : NodeState) → s.to ≡ end → AllBelow (entered_rows t v s)
  unfolding entered_rows
  below_entered t v s e = below_entry t v s (entry v.word s.cpu (bus_at t s)).result e

  below_acted : (t : ℕ) (s : NodeState) (o : Option Vector) → s.to ≡ end → AllBelow (acted_rows t s o)
  below_acted t s None e = below_case s.asleep [] _ (All-nil (IsBelow end)) (below_instructed t s e)
  below_acted t s (Some v) e = below_case s.asleep _ _ (below_entered t v s e) (below_case s.owed _ _ (below_instructed t s e) (below_entered t v s e))

  below_cpu : (t : ℕ) (s : NodeState) → s.to ≡ end → AllBelow (cpu_rows t s)
  unfolding cpu_rows
  below_cpu t s e = below_case (nat_lt 0 s.wait) [] _ (All-nil (IsBelow end)) (below_acted t s (due s) e)

  below_serial : (t : ℕ) (s : NodeState) (o : Option ℕ) → AllBelow (serial_rows t s o)
  below_serial t s None = All-nil (IsBelow end)
  below_serial t s (Some byte) = below_other _ refl

  below_sent : (t : ℕ) (s : NodeState) (o : Option ℕ) → AllBelow (sent_rows t s o)
  below_sent t s None = All-nil (IsBelow end)
  below_sent t s (Some byte) = below_other _ refl

  below_device : (t : ℕ) (s : NodeState) → AllBelow (device_rows t s)
  unfolding device_rows
  below_device t s =
      below_case (is_some s.stop) [] _ (All-nil (IsBelow end))
      (All-append (IsBelow end) (serial_rows t s (board_serial t s.board)) (sent_rows t s (board_sends t s.board)) (below_serial t s (board_serial t s.board)) (below_sent t s (board_sends t s.board)))

  below_begun : (t : ℕ) (s : NodeState) → s.to ≡ end → AllBelow (begun_rows t s)
  unfolding begun_rows
  below_begun t s e =
      below_case (is_some s.stop) [] _ (All-nil (IsBelow end))
      (All-append (IsBelow end) (cpu_rows t s) (device_rows t (cpu_cycle t s)) (below_cpu t s e) (below_device t (cpu_cycle t s)))

  pub cycle_below : (t : ℕ) (s : NodeState) (h : Heard) → s.to ≡ end → AllBelow (ticked_rows node_kind t s h)
  cycle_below t s h e =
      All-append (IsBelow end) (begun_rows t s) (cond (asks_in t s) (finished_rows t (begun_in t s) h) []) (below_begun t s e)
      (below_case (asks_in t s) _ _ (below_other _ refl) (All-nil (IsBelow end)))
