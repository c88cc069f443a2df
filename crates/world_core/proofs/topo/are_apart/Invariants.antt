use Rattle.std.proofs.Common.{ℕ, ◌≤◌, ◌<◌, get_or}
use Rattle.world_core.specs.declared.spans.Span.{Span}
use Rattle.world_core.specs.Topology.{IsSpanOrder}
use Rattle.world_core.proofs.topo.are_apart.Given as goal

abbrev pub invariant-loop-place : goal.invariant-loop-place
invariant-loop-place l = record {
  first : 1 ≤ l.place;
  kept : (i j : ℕ) (d : Span) → i < j → j < l.place → IsSpanOrder (get_or l.spans i d) (get_or l.spans j d);
}
