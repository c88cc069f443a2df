use Rattle.fleet_plain.proofs.Sized.{all_sized}
use Rattle.fleet_plain.proofs.plain.PlainRun.watch.Goals as goal

pub new-requires-clause-sized : goal.new-requires-clause-sized
new-requires-clause-sized c = all_sized c.args.scenario.now
