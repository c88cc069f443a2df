-- What the clock words and the record of a session have in common. Own to this simulator.
use Rattle.std.specs.Prelude.{◌≡◌, ℕ}
use Rattle.atomic_table.specs.Seated.{TableId}
use Rattle.world_core.specs.declared.world.WorldFacts.{WorldFacts}
use Rattle.neighbour_sync.specs.Seats.{ClocksFacts}
use Rattle.neighbour_sync.specs.Record.{AirRecord}

-- the words c and the record a are of one table and one world, and the record is cut at the cycle f
pub record AreParts (t : TableId) (w : WorldFacts) (f : ℕ) (c : ClocksFacts) (a : AirRecord) : Type 0 where
  pub words : c.table ≡ t
  pub scene : c.world ≡ w
  pub table : a.table ≡ t
  pub world : a.world ≡ w
  pub floor : a.floor ≡ f
