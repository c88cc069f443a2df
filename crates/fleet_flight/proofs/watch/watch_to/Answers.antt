use Rattle.fleet_flight.specs.Shadows.{groups_of}
use Rattle.fleet_flight.proofs.Watching.{in_order}
use Rattle.fleet_flight.proofs.watch.watch_to.Goals as goal

pub returns-clause-changes : goal.returns-clause-changes
returns-clause-changes g c =
    in_order (g.B.Begins.origin c.args.from.now) (groups_of c.args.shadows.now.items) c.args.floor c.args.end c.in_ok-changes.changes.items c.sort.new.changes.items c.in_ok-changes.ensures.changes c.in_ok-sort.ensures.sorted c.in_ok-sort.ensures.stable
