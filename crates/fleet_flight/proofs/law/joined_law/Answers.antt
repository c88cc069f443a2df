use Rattle.fleet_flight.proofs.Seen.{joined}
use Rattle.fleet_flight.proofs.law.joined_law.Goals as goal

pub returns : goal.returns
returns c = joined
