use Rattle.std.proofs.Common.{◌≡◌, ℕ, List, ap, sym, subst, ◌∙◌}
use Rattle.std.specs.List.{each_same}
use Rattle.world_core.specs.declared.link_table.Link.{Link}
use Rattle.world_core.specs.Topology.{topology, IsTopology, greatest}
use Rattle.world_core.specs.LinkTable.{IsTableOf}
use Rattle.world_core.proofs.topo.Topo.copy.Goals as goal

pub invariant_of-result : goal.invariant_of-result
invariant_of-result c =
    let i = c.self.inside in
    let links : i.links.items ≡ c.in_ok-links.links.items = sym (each_same i.links.items c.in_ok-links.links.items c.in_ok-links.ensures.cases.0) in
    let own : i.own.items ≡ c.in_ok-own.own.items = sym (each_same i.own.items c.in_ok-own.own.items c.in_ok-own.ensures.cases.0) in
    let spans : i.spans.items ≡ c.in_ok-spans.spans.items = sym (each_same i.spans.items c.in_ok-spans.spans.items c.in_ok-spans.ensures.cases.0) in
    let same : topology i.nodes i.limit i.latency i.byte_time i.links.items i.own.items i.spans.items ≡ topology i.nodes i.limit i.latency i.byte_time c.in_ok-links.links.items c.in_ok-own.own.items c.in_ok-spans.spans.items =
    λ k. topology i.nodes i.limit i.latency i.byte_time (links k) (own k) (spans k) in
    (subst IsTopology same c.self.invariant.0, subst (λ (l : List Link). IsTableOf l i.table.rows) links c.self.invariant.1, c.self.invariant.2, c.self.invariant.3 ∙ ap (λ (l : List ℕ). greatest l i.latency) own)

pub returns : goal.returns
returns c =
    let i = c.self.inside in
    let links : c.in_ok-links.links.items ≡ i.links.items = each_same i.links.items c.in_ok-links.links.items c.in_ok-links.ensures.cases.0 in
    let own : c.in_ok-own.own.items ≡ i.own.items = each_same i.own.items c.in_ok-own.own.items c.in_ok-own.ensures.cases.0 in
    let spans : c.in_ok-spans.spans.items ≡ i.spans.items = each_same i.spans.items c.in_ok-spans.spans.items c.in_ok-spans.ensures.cases.0 in
    (λ k. topology i.nodes i.limit i.latency i.byte_time (links k) (own k) (spans k)) ∙ c.self.view_is
