use Rattle.fleet_flight.proofs.Shadowed.{Shadowed}
use Rattle.fleet_flight.proofs.begun.shadows_of.Given as goal

abbrev pub invariant-loop-k : goal.invariant-loop-k
invariant-loop-k l = Shadowed l.nodes l.places l.k l.shadows.items
