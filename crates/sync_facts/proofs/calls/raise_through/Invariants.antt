use Rattle.std.proofs.Common.{◌≡◌, ◌≤◌, []}
use Rattle.sync_facts.proofs.calls.raise_through.Given as goal

abbrev pub invariant-loop-passed : goal.invariant-loop-passed
invariant-loop-passed l = record {
  table : l.seat.table ≡ l.clocks.table;
  silent : l.seat.world.sends ≡ [];
  within : l.last ≤ l.seat.world.topo.limit;
  clock : l.seat.clock ≡ l.passed;
}
