use Rattle.std.proofs.Common.{◌≡◌, ◌≤◌, []}
use Rattle.sync_facts.proofs.calls.raise_again.Given as goal

abbrev pub invariant-loop-turn : goal.invariant-loop-turn
invariant-loop-turn l = record {
  table : l.seat.table ≡ l.clocks.table;
  silent : l.seat.world.sends ≡ [];
  within : l.last ≤ l.seat.world.topo.limit;
  turns : l.seat.clock ≤ l.turn;
  last : l.seat.clock ≤ l.last;
}
