use Rattle.std.proofs.Common.{◌<◌, sym, subst, ◌∙◌, ap}
use Rattle.std.specs.List.{All, AllPairs}
use Rattle.world_core.specs.declared.spans.Span.{Span}
use Rattle.world_core.specs.Topology.{Topology, IsSpanOrder}
use Rattle.world_core.proofs.topo.Topo.spans.Goals as goal

pub returns : goal.returns
returns c =
    let ranges = c.self.invariant.0.ranges in
    let same = c.deref.ensures.value in
    record {
      value = same ∙ ap (λ (t : Topology). t.spans) c.self.view_is;
      apart = subst (AllPairs IsSpanOrder) (sym same) ranges.spans_apart;
      some = subst (All (λ (x : Span). x.from < x.until)) (sym same) (λ i d lt. (ranges.spans_in i d lt).1);
    }
