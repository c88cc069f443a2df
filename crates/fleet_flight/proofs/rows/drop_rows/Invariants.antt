use Rattle.fleet_flight.proofs.EachNode.{TakenSo}
use Rattle.fleet_flight.proofs.rows.drop_rows.Given as goal

abbrev pub invariant-loop-k : goal.invariant-loop-k
invariant-loop-k l = TakenSo l.fn.nodes.items l.k l.nodes.items
