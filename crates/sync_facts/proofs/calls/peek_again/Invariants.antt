use Rattle.std.proofs.Common.{◌≡◌, ◌<◌}
use Rattle.sync_facts.proofs.calls.peek_again.Given as goal

abbrev pub invariant-loop : goal.invariant-loop
invariant-loop l = record {
  table : l.seat.table ≡ l.clocks.table;
  node : l.node < l.seat.world.topo.nodes;
}
