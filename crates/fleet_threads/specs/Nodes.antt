-- The nodes of an epoch: those to be begun, which come back to their list, and those for which no thread was found. Own
-- to this simulator.
use Rattle.std.specs.Prelude.{◌≡◌, ℕ, ◌+◌, ◌≤◌, Vec, vec_len, vec_capacity}
use Rattle.std.specs.List.{All}
use Rattle.std.specs.declared.alloc.Global.{Global}
use Rattle.atomic_table.specs.Seated.{TableId}
use Rattle.world_core.specs.declared.world.WorldFacts.{WorldFacts}
use Rattle.node_runner.specs.Scenario.{ScenarioOf}
use Rattle.fleet_threads.specs.declared.member.Member.{Member}
use Rattle.fleet_threads.specs.Member.{IsUnderWay, IsBack, numbers}

-- node k, as a thread hands it back: at the end of the epoch or on the way
pub record IsHanded (t : TableId) (w : WorldFacts) (sc : ScenarioOf) (floor end k : ℕ) (m : Member) : Type 0 where
  pub is : IsUnderWay t w sc floor end m
  pub number : m.runner.number ≡ k

-- the nodes ms are to be begun, and there is room for them behind those for which no thread was found, ws
pub record AreBegun (t : TableId) (w : WorldFacts) (sc : ScenarioOf) (floor end : ℕ) (ms ws : Vec Member Global) : Type 0 where
  pub members : All (IsUnderWay t w sc floor end) ms.items
  pub waiting : All (IsUnderWay t w sc floor end) ws.items
  pub places : vec_len ws + vec_len ms ≤ vec_capacity ws

-- all of them are back in their order, and those for which no thread was found are at the end too, each in its place
pub record AreBack (t : TableId) (w : WorldFacts) (sc : ScenarioOf) (floor end : ℕ) (ms ws ns us : Vec Member Global) : Type 0 where
  pub all : All (IsBack t w sc floor end) ns.items
  pub order : numbers ns.items ≡ numbers ms.items
  pub len : vec_len ns ≡ vec_len ms
  pub kept : vec_capacity ns ≡ vec_capacity ms
  pub rest : All (IsBack t w sc floor end) us.items
  pub others : numbers us.items ≡ numbers ws.items
