-- How the fields of the record agree.
use Rattle.std.specs.Prelude.{◌≡◌, ℕ, ◌≤◌, List}
use Rattle.air_base.specs.declared.air.Send.{Send}
use Rattle.air_base.specs.declared.air.Ask.{Ask}
use Rattle.air_base.specs.declared.air.Heard.{Heard}
use Rattle.world_core.specs.Topology.{Topology}
use Rattle.world_core.specs.Kept.{epoch, kept_room_of}
use Rattle.world_core.specs.Chain.{LogFacts}
use Rattle.neighbour_sync.specs.Seats.{AirFacts}
use Rattle.neighbour_sync.specs.Record.{AirRecord, IsSound}

abbrev pub record_of : AirFacts → ℕ → List Send → List (Ask × Heard) → AirRecord
record_of a floor sends samples = record { table = a.table; world = a.world; sent = a.sent; loads = a.loads; floor = floor; sends = sends; samples = samples }

-- the topology is the world's, the record is sound, and there is room for all sends that it can come to hold
pub record IsHeld (a : AirFacts) (t : Topology) (l : LogFacts) (floor : ℕ) (samples : List (Ask × Heard)) : Type 0 where
  pub topo : t ≡ a.world.topo
  pub sound : IsSound (record_of a floor l.sends samples)
  pub room : kept_room_of a.world.topo epoch ≤ l.room
