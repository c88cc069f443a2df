use Rattle.std.proofs.Common.{◌≡◌}
use Rattle.sync_facts.proofs.calls.is_soon_past.Given as goal

abbrev pub invariant-loop : goal.invariant-loop
invariant-loop g l = record {
  table : l.seat.table ≡ l.fn.seat.table;
  world : l.seat.world ≡ l.fn.seat.world;
  clock : l.seat.clock ≡ l.fn.seat.clock;
}
