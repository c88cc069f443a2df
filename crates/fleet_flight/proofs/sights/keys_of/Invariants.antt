use Rattle.std.proofs.Common.{◌≡◌, ℕ, ◌<◌, length}
use Rattle.std.specs.Prelude.{slice_index, slice_index_or}
use Rattle.fleet_flight.specs.Shadows.{key_of}
use Rattle.fleet_flight.specs.Watched.{no_place}
use Rattle.fleet_flight.proofs.sights.keys_of.Given as goal

abbrev pub invariant-loop-place : goal.invariant-loop-place
invariant-loop-place l = record {
  count : length l.keys.items ≡ l.place-index;
  each : (j : ℕ) → j < l.place-index → slice_index l.keys.items j ≡ key_of (slice_index_or l.places j no_place).spot;
}
