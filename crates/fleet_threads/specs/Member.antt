-- A node in an epoch. Own to this simulator.
use Rattle.std.specs.Prelude.{◌≡◌, ℕ, ◌+◌, ◌≤◌, ◌<◌, false, if◌then◌else◌, List, map, length, slice_index_or}
use Rattle.std.specs.List.{All, sum_by}
use Rattle.atomic_table.specs.Seated.{TableId}
use Rattle.world_core.specs.declared.world.WorldFacts.{WorldFacts}
use Rattle.world_core.specs.Sends.{sends_below}
use Rattle.world_core.specs.Order.{facts_of}
use Rattle.node_runner.specs.Scenario.{ScenarioOf, IsScenario, fleet_of}
use Rattle.node_runner.specs.Place.{Place, is_live, sends_passed}
use Rattle.world_core.specs.Kept.{epoch}
use Rattle.node_runner.specs.Flight.{IsAt, IsTaken}
use Rattle.fleet_threads.specs.declared.member.Member.{Member}

-- an epoch of the scenario, from the cycle `floor` to the cycle `end`, in the world of its sends and samples
pub record IsEpoch (w : WorldFacts) (sc : ScenarioOf) (floor end : ℕ) : Type 0 where
  pub sound : IsScenario sc
  pub world : w ≡ facts_of (fleet_of sc)
  pub rises : floor ≤ end
  pub span : end ≤ floor + epoch
  pub within : end ≤ sc.topo.limit

-- a runner stands at a place of the single global order, not past the end, and its rows were taken at the floor
pub record IsPlaced (sc : ScenarioOf) (floor end : ℕ) (p : Place) : Type 0 where
  pub node : p.number < sc.topo.nodes
  pub at : IsAt sc end p.number p
  pub taken : IsTaken sc floor p.number p

-- how far the node has come: to the runner's cycle, and to the end where the node goes on no more before that
abbrev pub word_of : ℕ → Place → ℕ
word_of end p = if is_live end p then p.cycle else end

-- A node in that epoch. It has seen that all that it has sent is posted. Its clock word may stand ahead of the cycle
-- that it has come to, as far as it sends nothing in between.
pub record IsUnderWay (t : TableId) (w : WorldFacts) (sc : ScenarioOf) (floor end : ℕ) (m : Member) : Type 0 where
  pub epoch : IsEpoch w sc floor end
  pub place : IsPlaced sc floor end m.runner
  pub number : m.air.number ≡ m.runner.number
  pub table : m.air.table ≡ t
  pub world : m.air.world ≡ w
  pub told : sends_passed m.runner ≤ m.air.told
  pub gap : m.gap ≡ sc.topo.byte_time
  pub clock : m.air.clock ≤ end
  pub passed : sends_below w.sends m.air.number m.air.clock ≤ sends_passed m.runner

-- what one step leaves of a node: the same node, still under way
abbrev pub GoesOn : TableId → WorldFacts → ScenarioOf → ℕ → ℕ → Member → Member → Type 0
GoesOn t w sc floor end old new = IsUnderWay t w sc floor end new × (new.runner.number ≡ old.runner.number)

-- how often the node has looked at the halt, as it does in each try to sample the air; and how often all of them have
abbrev pub looks_of : Member → ℕ
looks_of m = length m.air.halts

abbrev pub all_looks : List Member → ℕ
all_looks ms = sum_by looks_of ms

-- the node has come to the end, or stopped before, and its clock word stands there; or it has halted
abbrev pub IsOver : ℕ → Member → Type 0
IsOver end m = m.halted ≡ false → (is_live end m.runner ≡ false) × (m.air.clock ≡ end)

-- a node that is handed back
pub record IsBack (t : TableId) (w : WorldFacts) (sc : ScenarioOf) (floor end : ℕ) (m : Member) : Type 0 where
  pub is : IsUnderWay t w sc floor end m
  pub over : IsOver end m

abbrev pub number_of : Member → ℕ
number_of m = m.runner.number

abbrev pub numbers : List Member → List ℕ
numbers ms = map number_of ms

-- the first n nodes, in order of number
pub record InOrder (n : ℕ) (ms : List Member) : Type 0 where
  pub count : length ms ≡ n
  pub each : (k : ℕ) (d : Member) → k < n → (slice_index_or ms k d).runner.number ≡ k

-- all nodes, each at the end of the epoch, or stopped before
pub record AreAtEnd (sc : ScenarioOf) (floor end : ℕ) (ms : List Member) : Type 0 where
  pub order : InOrder sc.topo.nodes ms
  pub placed : All (λ m. IsPlaced sc floor end m.runner) ms
  pub still : All (λ m. is_live end m.runner ≡ false) ms
