use Rattle.std.proofs.Common.{length, sym, subst, ap, ◌∙◌, arith}
use Rattle.std.specs.Prelude.{List}
use Rattle.std.specs.List.{All}
use Rattle.air_base.specs.NodeRun.{Timed}
use Rattle.node_core.specs.State.{NodeState}
use Rattle.node_core.specs.declared.row.Row.{Row}
use Rattle.fleet_flight.specs.Origin.{Origin}
use Rattle.fleet_flight.specs.Shadows.{IsNew, IsStill}
use Rattle.fleet_flight.proofs.Shadowed.{all_behind, all_still}
use Rattle.fleet_flight.proofs.watched_run.WatchedRun.new.Goals as goal

pub shadows_of-requires-clause-still : goal.shadows_of-requires-clause-still
shadows_of-requires-clause-still g c =
    let o : Origin = g.B.Begins.origin c.args.from in
    subst (All IsStill) (sym c.deref.ensures.value) (all_still o c.args.floor c.args.nodes.items c.args.log.sends c.requires.paused c.requires.sized)

pub shadows_of-requires-clause-few : goal.shadows_of-requires-clause-few
shadows_of-requires-clause-few g c =
    let most = c.topo-lawful.ensures.sound.ranges.nodes_to in
    let count = ap length c.deref.ensures.value ∙ c.requires.paused.count in
    omega (arith, most, count)

pub returns-clause-watching : goal.returns-clause-watching
returns-clause-watching g c =
    let o : Origin = g.B.Begins.origin c.args.from in
    let each = subst (λ (vs : List (Timed NodeState Row)). All (IsNew vs) c.in_ok-shadows.shadows.items) c.deref.ensures.value c.in_ok-shadows.ensures.each in
    record {
      paused = c.requires.paused;
      shadows = all_behind o c.args.floor c.args.nodes.items c.args.log.sends c.requires.paused c.in_ok-shadows.shadows.items each;
    }
