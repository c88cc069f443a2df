-- Samples that are final: right, and such that no later send can change them. Own to this simulator.
use Rattle.std.specs.Prelude.{◌≡◌, ℕ, ◌+◌, ◌*◌, ◌/◌, ◌≤◌, List, length}
use Rattle.std.specs.List.{All, Contains}
use Rattle.air_base.specs.declared.air.Send.{Send}
use Rattle.air_base.specs.declared.air.Ask.{Ask}
use Rattle.air_base.specs.declared.air.Heard.{Heard}
use Rattle.world_core.specs.declared.world.WorldFacts.{WorldFacts}
use Rattle.world_core.specs.Topology.{Topology, IsInside}
use Rattle.world_core.specs.Sends.{sends_of}
use Rattle.world_core.specs.Heard.{heard}
use Rattle.world_core.specs.Posted.{sent_of, posted, AllPostedFor}
use Rattle.world_core.specs.Kept.{IsPosted, IsPostedTo}

-- the true answer to a sample of node j in cycle s: what it hears of all sends of the world
abbrev pub truth : WorldFacts → ℕ → ℕ → Heard
truth w j s = heard w.topo w.sends j s

-- the sample is what the posted sends give, and all that it could hear is posted
pub record IsSettled (w : WorldFacts) (sent : List ℕ) (x : Ask × Heard) : Type 0 where
  pub value : x.1 ≡ heard w.topo (posted w sent) x.0.node x.0.cycle
  pub reached : AllPostedFor w sent x.0.node x.0.cycle

-- it is a sample of the world, has the true answer, and is settled
pub record IsFinal (w : WorldFacts) (sent : List ℕ) (x : Ask × Heard) : Type 0 where
  pub asked : Contains w.asks x.0
  pub right : x.1 ≡ truth w x.0.node x.0.cycle
  pub settled : IsSettled w sent x

-- what holds of a record of sends and samples that is cut at a floor, when sent[k] sends of each node k are posted
pub record IsRecorded (w : WorldFacts) (floor : ℕ) (sent : List ℕ) (sends : List Send) (samples : List (Ask × Heard)) : Type 0 where
  pub nodes : length sent ≡ w.topo.nodes
  pub counts : (k : ℕ) → sent_of sent k ≤ length (sends_of k w.sends)
  pub below : IsPostedTo w floor sent
  pub posted : IsPosted w floor sent sends
  pub inside : All (λ x. IsInside w.topo x.node x.cycle) sends
  pub late : All (λ x. floor ≤ x.0.cycle) samples
  pub final : All (IsFinal w sent) samples

-- room for all sends that a world can have
abbrev pub room_of : Topology → ℕ
room_of t = t.nodes * (t.limit / t.byte_time + 1)
