use Rattle.std.proofs.Common.{◌<◌, List, sym, subst}
use Rattle.std.specs.List.{All, filter}
use Rattle.std.proofs.lemmas.List.Elements.{All-filter}
use Rattle.air_base.specs.declared.air.Send.{Send}
use Rattle.world_core.specs.Chain.{IsAfter}
use Rattle.world_core.specs.Kept.{is_kept}
use Rattle.world_core.specs.Sends.{sends_of}
use Rattle.fleet_flight.proofs.Records.{own_below}
use Rattle.fleet_flight.proofs.record.post_to_full.Goals as goal

pub push-requires-clause-after : goal.push-requires-clause-after
push-requires-clause-after c =
    let olds : List Send = c.args.log.now.sends in
    let x : Send = c.args.send in
    let p = is_kept c.args.topo.now c.args.floor in
    subst (λ (l : List Send). All (λ y. y.cycle < x.cycle) (sends_of x.node l)) (sym c.in_ok-make_room.ensures.sends)
    (own_below x (filter p olds) (All-filter p (IsAfter x) olds c.requires.behind.behind))
