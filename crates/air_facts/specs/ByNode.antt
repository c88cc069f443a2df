-- A consistent state told node by node and sample by sample, as the plain program of the tests evaluates it.
use Rattle.std.specs.Prelude.{◌≡◌, ℕ, ◌+◌, ◌-◌, ◌≤◌, ◌<◌, true, List, length, take}
use Rattle.std.specs.List.{Contains, filter}
use Rattle.air_base.specs.declared.air.Send.{Send}
use Rattle.air_base.specs.declared.air.Ask.{Ask}
use Rattle.air_base.specs.declared.air.Heard.{Heard}
use Rattle.world_core.specs.declared.world.WorldFacts.{WorldFacts}
use Rattle.world_core.specs.Topology.{is_needed, latency_of}
use Rattle.world_core.specs.Heard.{heard}
use Rattle.world_core.specs.Sends.{sends_of, sends_below}
use Rattle.world_core.specs.Posted.{sent_of, posted}
use Rattle.world_core.specs.Kept.{is_kept}
use Rattle.world_core.specs.Settled.{truth}
use Rattle.world_core.specs.Consistent.{clock_of}

-- of one node: its clock, the count of its posted sends, and its recorded sends
pub record NodeAgrees (w : WorldFacts) (floor : ℕ) (clocks sent : List ℕ) (sends : List Send) (k : ℕ) : Type 0 where
  pub within : clock_of clocks k ≤ w.topo.limit
  pub passed : sends_below w.sends k (clock_of clocks k) ≤ sent_of sent k
  pub counts : sent_of sent k ≤ length (sends_of k w.sends)
  pub below : sends_below w.sends k floor ≤ sent_of sent k
  pub posted : sends_of k sends ≡ filter (is_kept w.topo floor) (take (sent_of sent k) (sends_of k w.sends))

-- of the nodes of the topology, all sends are posted that node j could hear in cycle s
abbrev pub NodesPostedFor : WorldFacts → List ℕ → ℕ → ℕ → ℕ → Type 0
NodesPostedFor w sent n j s = (k : ℕ) → k < n → is_needed w.topo k j s ≡ true → sends_below w.sends k (s - latency_of w.topo k j + 1) ≤ sent_of sent k

-- of one sample
pub record SampleAgrees (w : WorldFacts) (floor : ℕ) (sent : List ℕ) (x : Ask × Heard) : Type 0 where
  pub kept : floor ≤ x.0.cycle
  pub asked : Contains w.asks x.0
  pub right : x.1 ≡ truth w x.0.node x.0.cycle
  pub value : x.1 ≡ heard w.topo (posted w sent) x.0.node x.0.cycle
  pub reached : NodesPostedFor w sent w.topo.nodes x.0.node x.0.cycle
