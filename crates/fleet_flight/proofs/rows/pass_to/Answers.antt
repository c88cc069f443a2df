use Rattle.fleet_flight.proofs.Epoch.{all_calm, next_paused}
use Rattle.fleet_flight.proofs.rows.pass_to.Goals as goal

pub drop_rows-requires : goal.drop_rows-requires
drop_rows-requires g c = all_calm (g.B.Begins.origin c.args.from.now) c.args.floor c.args.end c.run_to.new.nodes.items c.run_to.new.log.sends c.in_ok-run_to.ensures.paused

pub returns : goal.returns
returns g c =
    next_paused (g.B.Begins.origin c.args.from.now) c.args.floor c.args.end c.run_to.new.nodes.items c.run_to.new.log.sends c.in_ok-run_to.ensures.paused _ c.drop_rows.ensures
