use Rattle.std.proofs.Common.{ℕ, refl, subst, List, ap, ◌∙◌}
use Rattle.std.proofs.lemmas.Bool.{false≢true}
use Rattle.world_core.specs.declared.link_table.Link.{Link}
use Rattle.world_core.specs.FirstFault.{AllKeep}
use Rattle.world_core.specs.Topology.{Topology, topology, HasRanges, IsTopology, IsNewLink, IsLinkFault, greatest}
use Rattle.world_core.specs.LinkTable.{IsTableOf}
use Rattle.world_core.proofs.Links.{fault_of, no_topology}
use Rattle.world_core.proofs.topo.Topo.with_spans.Goals as goal

pub returns-then-not-are_in_range : goal.returns-then-not-are_in_range
returns-then-not-are_in_range c =
    let t = topology c.args.nodes c.args.limit c.args.latency c.args.byte_time c.args.links.items c.args.own.items c.args.spans.items in
    let none : ¬ HasRanges t = subst (λ (u : Topology). ¬ HasRanges u) (λ i. topology c.args.nodes c.args.limit c.args.latency c.args.byte_time (c.deref.ensures.value i) (c.deref-2.ensures.value i) (c.deref-3.ensures.value i))
    (λ r. false≢true (c.if-not-are_in_range.ensures.1 r)) in
    record {
      ok = ((λ e. absurd (false≢true e)), (λ law. absurd (none law.ranges)));
      value = tt;
      fault = none;
    }

pub invariant_of-result : goal.invariant_of-result
invariant_of-result c =
    let t = topology c.args.nodes c.args.limit c.args.latency c.args.byte_time c.args.links.items c.args.own.items c.args.spans.items in
    let ranges : HasRanges t = subst HasRanges (λ i. topology c.args.nodes c.args.limit c.args.latency c.args.byte_time (c.deref.ensures.value i) (c.deref-2.ensures.value i) (c.deref-3.ensures.value i)) (c.if-not-are_in_range.ensures.0 refl) in
    let law : IsTopology t = record { ranges = ranges; links = subst (AllKeep IsNewLink) c.deref-5.ensures.value c.in-Ok.ensures.0 } in
    (law, subst (λ (l : List Link). IsTableOf l c.in-Ok.table.rows) c.deref-5.ensures.value c.in-Ok.ensures.1, c.of.ensures, c.greatest-reach.ensures ∙ ap (λ (l : List ℕ). greatest l c.args.latency) c.deref-4.ensures.value)

pub returns-in-Ok : goal.returns-in-Ok
returns-in-Ok c =
    let t = topology c.args.nodes c.args.limit c.args.latency c.args.byte_time c.args.links.items c.args.own.items c.args.spans.items in
    let ranges : HasRanges t = subst HasRanges (λ i. topology c.args.nodes c.args.limit c.args.latency c.args.byte_time (c.deref.ensures.value i) (c.deref-2.ensures.value i) (c.deref-3.ensures.value i)) (c.if-not-are_in_range.ensures.0 refl) in
    let law : IsTopology t = record { ranges = ranges; links = subst (AllKeep IsNewLink) c.deref-5.ensures.value c.in-Ok.ensures.0 } in
    record {
      ok = ((λ _. law), (λ _. refl));
      value = refl;
      fault = tt;
    }

pub returns-in-Err : goal.returns-in-Err
returns-in-Err c =
    let t = topology c.args.nodes c.args.limit c.args.latency c.args.byte_time c.args.links.items c.args.own.items c.args.spans.items in
    let fault = subst (λ (l : List Link). IsLinkFault l c.in-Err.fault) c.deref-5.ensures.value c.in-Err.ensures in
    let ranges : HasRanges t = subst HasRanges (λ i. topology c.args.nodes c.args.limit c.args.latency c.args.byte_time (c.deref.ensures.value i) (c.deref-2.ensures.value i) (c.deref-3.ensures.value i)) (c.if-not-are_in_range.ensures.0 refl) in
    record {
      ok = ((λ e. absurd (false≢true e)), (λ law. absurd (no_topology t c.in-Err.fault fault law)));
      value = tt;
      fault = fault_of t c.in-Err.fault ranges fault;
    }
