use Rattle.std.proofs.Common.{◌≡◌, ℕ, ◌<◌, ◌≤◌}
use Rattle.std.specs.Prelude.{slice_index}
use Rattle.fleet_flight.proofs.sights.are_few_same.Given as goal

abbrev pub invariant-loop-k : goal.invariant-loop-k
invariant-loop-k l = record {
  order : l.from ≤ l.k;
  same : (j : ℕ) → l.from ≤ j → j < l.k → slice_index l.last j ≡ slice_index l.node.state.sram (slice_index l.keys j);
}
