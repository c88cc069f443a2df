use Rattle.std.proofs.Common.{◌<◌, List, sym, subst, ap, ◌∙◌}
use Rattle.std.specs.List.{All}
use Rattle.std.proofs.lemmas.List.Elements.{All-filter}
use Rattle.std.proofs.lemmas.List.Kept.{AllPairs-filter}
use Rattle.air_base.specs.declared.air.Send.{Send}
use Rattle.world_core.specs.Chain.{IsAfter, LogFacts, Rises}
use Rattle.world_core.specs.Kept.{is_kept}
use Rattle.fleet_flight.proofs.record.make_room.Goals as goal
use Rattle.air_base.specs.declared.bounds.TheConstants.{MOST_NODES}

pub record_of-requires-clause-nodes : goal.record_of-requires-clause-nodes
record_of-requires-clause-nodes c =
    let olds : List Send = c.args.log.now.sends in
    let p = is_kept c.args.topo.now c.args.floor in
    subst (All (λ (x : Send). x.node < MOST_NODES)) (sym (c.sends-2.ensures ∙ ap (λ (l : LogFacts). l.sends) c.cut.ensures))
    (All-filter p (λ (x : Send). x.node < MOST_NODES) olds c.requires.nodes)

pub record_of-requires-clause-rises : goal.record_of-requires-clause-rises
record_of-requires-clause-rises c =
    let olds : List Send = c.args.log.now.sends in
    let p = is_kept c.args.topo.now c.args.floor in
    subst (λ (l : List Send). Rises l) (sym (c.sends-2.ensures ∙ ap (λ (l : LogFacts). l.sends) c.cut.ensures))
    (AllPairs-filter (λ x y. IsAfter y x) p olds c.requires.rises)
