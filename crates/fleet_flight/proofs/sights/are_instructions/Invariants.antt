use Rattle.std.proofs.Common.{ℕ, ◌<◌, ◌≤◌}
use Rattle.std.specs.Prelude.{slice_index_or}
use Rattle.fleet_flight.specs.Shadows.{IsInstruction, key_of}
use Rattle.fleet_flight.specs.Watched.{no_place}
use Rattle.fleet_flight.proofs.sights.are_instructions.Given as goal

abbrev pub invariant-loop-k : goal.invariant-loop-k
invariant-loop-k l = (j : ℕ) → l.from ≤ j → j < l.k → IsInstruction (slice_index_or l.places j no_place).spot (key_of (slice_index_or l.places j no_place).spot)
