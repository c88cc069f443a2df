-- What no cycle of a node changes: its number, its program memory, the bytes that arrive, the window, and the byte time
-- of its radio.
use Rattle.std.proofs.Common.{◌≡◌, ℕ, arith, List, refl, ◌∙◌}
use Rattle.avr_base.specs.declared.interrupts.Vector.{Vector}
use Rattle.device_laws.proofs.Timers.{kept_if}
use Rattle.node_core.specs.Cycle.{asks_in, begun_in, cpu_cycle, devices_cycle, entered, finished_in, instructed, node_kind}
use Rattle.node_core.specs.State.{NodeState}
use Rattle.node_core.proofs.Radio.{gap_begun, gap_finished}
use Rattle.serial_ports.specs.Script.{ScriptBytes}
use Rattle.air_base.specs.NodeKind.{ticked}
use Rattle.air_base.specs.declared.air.Heard.{Heard}

pub record Given : Type 0 where
  pub number : ℕ
  pub flash : List ℕ
  pub script : ScriptBytes
  pub from : ℕ
  pub to : ℕ

abbrev pub given : NodeState → Given
given s = record { number = s.number; flash = s.flash; script = s.script; from = s.from; to = s.to }

pub record Fixed : Type 0 where
  pub given : Given
  pub gap : ℕ

abbrev pub fixed : NodeState → Fixed
fixed s = record { given = given s; gap = s.board.radio.byte_time }

-- two nodes are given equal things
abbrev Same : NodeState → NodeState → Type 0
Same s u = given u ≡ given s

instructed_same : (t : ℕ) (s : NodeState) → Same s (instructed t s)
unfolding instructed
instructed_same t s = grind arith

entered_same : (t wait : ℕ) (v : Vector) (s : NodeState) → Same s (entered t wait v s)
unfolding entered
entered_same t wait v s = grind arith

cpu_same : (t : ℕ) (s : NodeState) → Same s (cpu_cycle t s)
unfolding cpu_cycle
cpu_same t s = grind (arith, instructed_same t s, entered_same t 7, entered_same t 3)

begun_same : (t : ℕ) (s : NodeState) → Same s (begun_in t s)
unfolding begun_in devices_cycle
begun_same t s = grind (arith, cpu_same t s)

both_same : (s u : NodeState) → given u ≡ given s → u.board.radio.byte_time ≡ s.board.radio.byte_time → fixed u ≡ fixed s
both_same s u e f = cc

fixed_begun : (t : ℕ) (s : NodeState) → fixed (begun_in t s) ≡ fixed s
fixed_begun t s = both_same s (begun_in t s) (begun_same t s) (gap_begun t s)

fixed_finished : (t : ℕ) (s : NodeState) (h : Heard) → fixed (finished_in t s h) ≡ fixed s
fixed_finished t s h = both_same s (finished_in t s h) refl (gap_finished t s h)

pub fixed_ticked : (t : ℕ) (s : NodeState) (h : Heard) → fixed (ticked node_kind t s h) ≡ fixed s
fixed_ticked t s h =
    kept_if (λ u. fixed u ≡ fixed s) (asks_in t s) (finished_in t (begun_in t s) h) (begun_in t s)
    (fixed_finished t (begun_in t s) h ∙ fixed_begun t s) (fixed_begun t s)
