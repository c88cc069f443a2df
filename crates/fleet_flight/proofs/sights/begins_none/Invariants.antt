use Rattle.std.proofs.Common.{◌≡◌, ℕ, ◌<◌, ◌≤◌, false}
use Rattle.std.specs.Prelude.{slice_index}
use Rattle.fleet_flight.specs.Watched.{is_at}
use Rattle.fleet_flight.proofs.sights.begins_none.Given as goal

abbrev pub invariant-loop-k : goal.invariant-loop-k
invariant-loop-k l = (j : ℕ) → l.from ≤ j → j < l.k → is_at l.fn.begun (slice_index l.keys j) ≡ false
