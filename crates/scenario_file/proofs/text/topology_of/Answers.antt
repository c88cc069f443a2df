use Rattle.std.proofs.Common.{length, map, IsOk, sym, ap, subst, ◌∙◌, arith}
use Rattle.std.proofs.lemmas.Bool.{false≢true}
use Rattle.toml.specs.View.{view, table_view}
use Rattle.world_core.specs.Topology.{IsTopology}
use Rattle.scenario_file.specs.Rules.{version_of}
use Rattle.scenario_file.specs.Faults.{nodes, links, link_of}
use Rattle.scenario_file.proofs.Clean.{clean}
use Rattle.scenario_file.proofs.Lists.{length_map}
use Rattle.scenario_file.proofs.LinkLists.{few_links}
use Rattle.scenario_file.proofs.Topologies.{link_ends, topology_is, topology_made}
use Rattle.scenario_file.proofs.text.topology_of.Goals as goal

pub links_of-requires-clause-fits : goal.links_of-requires-clause-fits
links_of-requires-clause-fits c = rw (c.elements-values.ensures, c.node_count-count.ensures, c.version_of.ensures) (clean (table_view c.args.table.now) c.requires).before.links_in

pub links_of-requires-clause-few : goal.links_of-requires-clause-few
links_of-requires-clause-few c = let f = (clean (table_view c.args.table.now) c.requires).before.few in let n = c.node_count-count.ensures in omega (arith, f, n)

pub spans_of-requires : goal.spans_of-requires
spans_of-requires c =
    let ms = table_view c.args.table.now in
    let is = clean ms c.requires in
    let n = is.before.few in
    let ends = link_ends (version_of ms) (length (nodes ms)) (links ms) is.before.some is.before.links_in in
    let few = few_links (map link_of (links ms)) (λ k d lt. let e = ends k d lt in let a = e.0 in let b = e.1 in (omega (arith, a, n), omega (arith, b, n))) is.no_twice in
    let a = length_map link_of (links ms) in
    let b = length_map view c.elements-values.result.now in
    let e = ap length c.elements-values.ensures in
    omega (arith, few, a, b, e)

pub overflow_cast-count : goal.overflow_cast-count
overflow_cast-count c = let f = (clean (table_view c.args.table.now) c.requires).before.few in let n = c.node_count-count.ensures in omega (arith, f, n)

pub unreachable-requires : goal.unreachable-requires
unreachable-requires c =
    let ms = table_view c.args.table.now in
    let made = topology_made ms _ _ _ _ _ _ _ _ c.node_count-count.ensures c.number_at-cycles.ensures c.number_at-latency.ensures c.number_at-byte_time.ensures c.elements-values.ensures c.in_ok-links.ensures c.in_ok-own.ensures c.in_ok-spans.ensures in
    let ok : IsOk c.with_spans.result = c.with_spans.ensures.ok.1 (subst IsTopology (sym made) (topology_is ms (clean ms c.requires))) in
    absurd (false≢true (rw c.in-Err.is at ok))

pub returns : goal.returns
returns c = c.in-Ok.ensures.value
    ∙ topology_made (table_view c.args.table.now) _ _ _ _ _ _ _ _ c.node_count-count.ensures c.number_at-cycles.ensures c.number_at-latency.ensures c.number_at-byte_time.ensures c.elements-values.ensures c.in_ok-links.ensures c.in_ok-own.ensures c.in_ok-spans.ensures
