use Rattle.fleet_flight.proofs.Watching.{Followed}
use Rattle.fleet_flight.proofs.watch.follow_all.Given as goal

abbrev pub invariant-loop-k : goal.invariant-loop-k
invariant-loop-k g l = Followed (g.B.Begins.origin l.from) l.floor l.end l.fn.shadows.items l.k l.shadows.items l.changes.items
