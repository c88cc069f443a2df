use Rattle.std.proofs.Common.{◌≡◌, ◌<◌, List, sym, subst, ap, ◌∙◌}
use Rattle.std.specs.List.{All, filter}
use Rattle.air_base.specs.declared.air.Send.{Send}
use Rattle.world_core.specs.Chain.{LogFacts, Rises}
use Rattle.world_core.specs.Kept.{is_kept}
use Rattle.send_order.specs.Order.{AreOrdered}
use Rattle.fleet_flight.proofs.record.kept_sends.Goals as goal
use Rattle.air_base.specs.declared.bounds.TheConstants.{MOST_NODES}

pub record_of-requires-clause-nodes : goal.record_of-requires-clause-nodes
record_of-requires-clause-nodes c = subst (All (λ (x : Send). x.node < MOST_NODES)) (sym c.sends-all.ensures) c.requires.nodes

pub record_of-requires-clause-rises : goal.record_of-requires-clause-rises
record_of-requires-clause-rises c = subst Rises (sym c.sends-all.ensures) c.requires.rises

pub returns : goal.returns
returns c =
    let log = ap (λ (l : LogFacts). l.sends) c.in_ok-kept.ensures ∙ c.sends-all.ensures in
    let cut : c.sends.result.now ≡ filter (is_kept c.args.topo.now c.args.floor) c.args.log.now.sends =
    c.sends.ensures ∙ (ap (λ (l : LogFacts). l.sends) c.cut.ensures ∙ ap (filter (is_kept c.args.topo.now c.args.floor)) log) in
    subst (λ (l : List Send). AreOrdered l c.in_ok-sends.sends.items) cut c.in_ok-sends.ensures
