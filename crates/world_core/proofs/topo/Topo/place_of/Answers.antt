use Rattle.std.proofs.Common.{◌≡◌, ◌<◌, inl, inr, false, List, length, sym, ◌∙◌, ap, subst, arith}
use Rattle.std.specs.List.{list_any}
use Rattle.world_core.specs.declared.link_table.Link.{Link}
use Rattle.world_core.specs.Topology.{Topology}
use Rattle.world_core.proofs.Latencies.{joins, place_none}
use Rattle.world_core.proofs.LinkRows.{entry_none}
use Rattle.world_core.proofs.Links.{not_linked}
use Rattle.world_core.proofs.topo.Topo.place_of.Goals as goal

pub returns-then-from-nodes : goal.returns-then-from-nodes
returns-then-from-nodes c =
    let t = c.args.self.now in
    record { value = ap length c.links-count.ensures.value ∙ sym (place_none t.links c.args.from c.args.to (sym (not_linked t c.args.from c.args.to c.nodes.ensures.lawful (inl (let e = c.nodes.ensures.value in let h = c.if-from-nodes.true in omega arith))))) }

pub returns-then-to-nodes : goal.returns-then-to-nodes
returns-then-to-nodes c =
    let t = c.args.self.now in
    record { value = ap length c.links-count.ensures.value ∙ sym (place_none t.links c.args.from c.args.to (sym (not_linked t c.args.from c.args.to c.nodes.ensures.lawful (inr (let e = c.nodes-2.ensures.value in let h = c.if-to-nodes.true in omega arith))))) }

pub returns-then-entry-eq0 : goal.returns-then-entry-eq0
returns-then-entry-eq0 c =
    let t = c.args.self.now in
    let i = c.self.inside in
    let most = c.nodes.ensures.lawful.ranges.nodes_to in
    let k : c.args.from < 64 = let e = c.nodes.ensures.value in let h = c.if-from-nodes.false in omega arith in
    let j : c.args.to < 64 = let e = c.nodes-2.ensures.value in let h = c.if-to-nodes.false in omega arith in
    let none : list_any (joins c.args.from c.args.to) i.links.items ≡ false =
    entry_none i.links.items c.args.from c.args.to (sym (c.self.invariant.1.entries c.args.from c.args.to k j) ∙ sym c.entry-entry.ensures.value ∙ c.if-entry-eq0.true) in
    let links : i.links.items ≡ t.links = ap (λ (u : Topology). u.links) c.self.view_is in
    record { value = ap length c.links-count.ensures.value ∙ sym (place_none t.links c.args.from c.args.to (subst (λ (l : List Link). list_any (joins c.args.from c.args.to) l ≡ false) links none)) }
