-- When the clocks of all nodes, the counts of their posted sends, and the record of sends and samples agree. Own to
-- this simulator.
use Rattle.std.specs.Prelude.{◌≡◌, ℕ, ◌≤◌, List, length, slice_index}
use Rattle.air_base.specs.declared.air.Send.{Send}
use Rattle.air_base.specs.declared.air.Ask.{Ask}
use Rattle.air_base.specs.declared.air.Heard.{Heard}
use Rattle.world_core.specs.declared.world.WorldFacts.{WorldFacts}
use Rattle.world_core.specs.Lawful.{IsLawful}
use Rattle.world_core.specs.Sends.{sends_below}
use Rattle.world_core.specs.Posted.{sent_of}
use Rattle.world_core.specs.Settled.{IsRecorded}

-- the world, each node's clock and the number of its posted sends, the cycle up to which the record is cut, and the
-- record in the order in which it grew
pub record AirState : Type 0 where
  pub world : WorldFacts
  pub clocks : List ℕ
  pub sent : List ℕ
  pub floor : ℕ
  pub sends : List Send
  pub samples : List (Ask × Heard)

abbrev pub clock_of : List ℕ → ℕ → ℕ
clock_of clocks k = slice_index clocks k

pub record IsConsistent (c : AirState) : Type 0 where
  pub lawful : IsLawful c.world
  pub nodes : length c.clocks ≡ c.world.topo.nodes
  -- no clock is past the limit, and no clock has passed a send that is not posted
  pub within : (k : ℕ) → clock_of c.clocks k ≤ c.world.topo.limit
  pub passed : (k : ℕ) → sends_below c.world.sends k (clock_of c.clocks k) ≤ sent_of c.sent k
  -- the recorded sends are the kept ones of those that are posted, and each recorded sample is final
  pub recorded : IsRecorded c.world c.floor c.sent c.sends c.samples
