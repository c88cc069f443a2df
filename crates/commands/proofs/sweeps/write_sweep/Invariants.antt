use Rattle.std.proofs.Common.{◌≡◌, [], drop, flat_map}
use Rattle.sim_io.proofs.Pages.{Stands}
use Rattle.commands.specs.Tails.{moved_text}
use Rattle.commands.proofs.sweeps.write_sweep.Given as goal

abbrev pub invariant-loop-one : goal.invariant-loop-one
invariant-loop-one g l = record {
  same : l.network ≡ l.fn.network;
  stands : Stands (g.O.Sink.taken l.fn.out) (flat_map (moved_text l.tail l.fn.network l.state) l.moves) (flat_map (moved_text l.tail l.fn.network l.state) (drop l.one-index l.moves)) (g.O.Sink.taken l.out) [];
  count : g.O.Sink.faults l.out ≡ g.O.Sink.faults l.fn.out;
}
