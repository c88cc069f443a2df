use Rattle.std.proofs.Common.{◌≡◌, ◌<◌, ◌≤◌, []}
use Rattle.sync_facts.proofs.calls.take_turns.Given as goal

abbrev pub invariant-loop-passed : goal.invariant-loop-passed
invariant-loop-passed g l = record {
  table : l.seat.table ≡ l.clocks.table;
  node : l.other < l.seat.world.topo.nodes;
  silent : l.seat.world.sends ≡ [];
  within : l.turns ≤ l.seat.world.topo.limit;
  clock : l.seat.clock ≡ l.passed;
}
