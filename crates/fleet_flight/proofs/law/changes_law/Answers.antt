use Rattle.fleet_flight.proofs.Seen.{put_in_all}
use Rattle.fleet_flight.proofs.law.changes_law.Goals as goal

pub returns : goal.returns
returns c = λ f n ps k at a b low le has. put_in_all f n ps k at low has a b le
