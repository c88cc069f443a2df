use Rattle.std.proofs.Common.{◌≡◌, ℕ, ◌-◌, ◌<◌, ◌≤◌}
use Rattle.std.specs.Prelude.{slice_index}
use Rattle.fleet_flight.proofs.sights.is_still.Given as goal

abbrev pub invariant-loop-k : goal.invariant-loop-k
invariant-loop-k l = record {
  order : l.from ≤ l.k;
  within : l.k ≤ l.to;
  same : (j : ℕ) → l.from ≤ j → j < l.k → slice_index l.last j ≡ slice_index l.node.state.sram (slice_index l.keys j);
}

abbrev pub decreases-loop-k : goal.decreases-loop-k
decreases-loop-k l = l.to - l.k
