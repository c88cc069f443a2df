use Rattle.fleet_flight.specs.Paused.{HaveBegun}
use Rattle.checkpoint_text.specs.Onward.{origin_of}
use Rattle.checkpoint_text.proofs.saved.nodes_of.Given as goal

abbrev pub invariant-loop-k : goal.invariant-loop-k
invariant-loop-k l = HaveBegun (origin_of l.scenario l.state) l.k l.nodes.items
