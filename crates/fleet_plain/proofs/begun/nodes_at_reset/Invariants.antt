use Rattle.fleet_flight.specs.Paused.{HaveBegun}
use Rattle.fleet_plain.specs.Run.{at_reset}
use Rattle.fleet_plain.proofs.begun.nodes_at_reset.Given as goal

abbrev pub invariant-loop-k : goal.invariant-loop-k
invariant-loop-k l = HaveBegun (at_reset l.scenario) l.k l.nodes.items
