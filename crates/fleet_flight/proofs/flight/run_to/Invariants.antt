use Rattle.std.specs.List.{sum_by}
use Rattle.node_core.specs.Cycle.{node_kind}
use Rattle.fleet_flight.specs.Origin.{flown}
use Rattle.fleet_flight.specs.Turns.{IsTurn}
use Rattle.fleet_flight.proofs.Flights.{InFlight}
use Rattle.fleet_flight.proofs.Steps.{rank}
use Rattle.fleet_flight.proofs.flight.run_to.Given as goal

abbrev pub invariant-loop-turn : goal.invariant-loop-turn
invariant-loop-turn g l = record {
  flight : InFlight (flown (g.B.Begins.origin l.from)) l.floor l.end l.hold l.nodes.items l.log.sends;
  turn : IsTurn node_kind l.end l.ahead l.nodes.items l.turn;
}

abbrev pub decreases-loop-turn : goal.decreases-loop-turn
decreases-loop-turn g l = sum_by (rank node_kind l.end) l.nodes.items
