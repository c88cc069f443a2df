use Rattle.fleet_flight.proofs.NoRest.{none_only, none_rests}
use Rattle.fleet_flight.proofs.shadow.rest.Goals as goal

pub returns-then-is_some-clause-rests : goal.returns-then-is_some-clause-rests
returns-then-is_some-clause-rests c = none_rests c.args.node.now c.requires.calm

pub returns-then-is_some-clause-only : goal.returns-then-is_some-clause-only
returns-then-is_some-clause-only c = none_only c.args.node.now
