-- A place that a network has.
use Rattle.std.specs.Prelude.{ℕ, ◌<◌, ◌≤◌}
use Rattle.data_space.specs.declared.regions.TheConstants.{SRAM_LAST}
use Rattle.node_places.specs.declared.Place.{Place}
use Rattle.node_places.specs.declared.Spot.{Spot}
use Rattle.node_places.specs.declared.Spot.TheVariants as spot

-- a byte's address is one of the data space
abbrev pub IsSpot : Spot → Type 0
IsSpot (spot.Byte at) = at ≤ SRAM_LAST
IsSpot (spot.At at) = Unit {0}

-- and the node is one of so many
pub record IsKnown (nodes : ℕ) (p : Place) : Type 0 where
  pub node : p.node < nodes
  pub spot : IsSpot p.spot
