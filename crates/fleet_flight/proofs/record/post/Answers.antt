use Rattle.fleet_flight.proofs.Records.{own_below}
use Rattle.fleet_flight.proofs.record.post.Goals as goal

pub push-requires-clause-after : goal.push-requires-clause-after
push-requires-clause-after c = own_below c.args.send c.args.log.now.sends c.requires.behind.behind
