-- A run of a node goes on: by a rest, and by a cycle that neither samples nor sends.
use Rattle.std.proofs.Common.{◌≡◌, ℕ, ◌+◌, ◌≤◌, ◌++◌, Bool, false, None, List, [], add-zero, sym, ◌∙◌, subst, arith}
use Rattle.air_base.specs.Bounds.{LAST_CYCLE}
use Rattle.std.proofs.lemmas.Bool.{false≢true}
use Rattle.node_core.specs.declared.row.Row.{Row}
use Rattle.air_base.specs.NodeRun.{AllQuiet, Comes, Timed, passed, passed_rows}
use Rattle.air_base.proofs.QuietCycles.{comes_leap, comes_more}
use Rattle.node_core.specs.declared.machine.Machine.{Machine}
use Rattle.node_core.specs.Inside.{IsWhole}
use Rattle.node_core.specs.State.{NodeState}
use Rattle.node_core.specs.Cycle.{asks_in, begun_in, begun_rows, node_kind, sends_in}

pub rested_comes : (v : Timed NodeState Row) (c n : ℕ) (s u : NodeState) (l k : List Row) → Comes node_kind v c s l → AllQuiet node_kind c n s
    → u ≡ passed node_kind c n s → passed_rows node_kind c n s ≡ [] → k ≡ l → Comes node_kind v (c + n) u k
rested_comes v c n s u l k h q e r same = subst (Comes node_kind v (c + n) u) (sym same) (comes_leap node_kind v c n s u l h q e r)

pub begun_comes : (v : Timed NodeState Row) (c : ℕ) (s u : NodeState) (l k : List Row) → Comes node_kind v c s l → asks_in c s ≡ false → sends_in c s ≡ None
    → u ≡ begun_in c s → k ≡ l ++ begun_rows c s → Comes node_kind v (c + 1) u k
begun_comes v c s u l k h asks sends e r =
    subst (λ (w : NodeState). Comes node_kind v (c + 1) w k) (sym e)
    (subst (Comes node_kind v (c + 1) (begun_in c s)) (sym r) (comes_more node_kind v c s l h (asks, sends)))

-- the inside of a node that stands between two cycles
pub whole_between : (t : ℕ) (b : Bool) (m : Machine) → b ≡ false → m.count ≤ LAST_CYCLE + t → (m.stop ≡ None → m.bus.io.clock ≡ t) → IsWhole t b m
whole_between t b m calm few clock = subst (λ (a : Bool). IsWhole t a m) (sym calm) record {
  few = omega (arith, few);
  clock = λ going. clock going ∙ sym (add-zero t);
  early = λ e. absurd (false≢true e);
  room = λ e. absurd (false≢true e);
  waits = λ e. absurd (false≢true e);
}
