-- What is posted of a world's sends: the first so many of each node. Own to this simulator.
use Rattle.std.specs.Prelude.{◌≡◌, ℕ, ◌+◌, ◌-◌, ◌≤◌, true, List, take, slice_index}
use Rattle.air_base.specs.declared.air.Send.{Send}
use Rattle.world_core.specs.declared.world.WorldFacts.{WorldFacts}
use Rattle.air_base.specs.Each.{each_below}
use Rattle.world_core.specs.Topology.{is_needed, latency_of}
use Rattle.world_core.specs.Sends.{sends_of, sends_below}

-- how many sends of node k are posted, where `sent` has a number for each node
abbrev pub sent_of : List ℕ → ℕ → ℕ
sent_of sent k = slice_index sent k

-- the first sent[k] sends of each node k, one node after another
abbrev pub posted : WorldFacts → List ℕ → List Send
posted w sent = each_below w.topo.nodes (λ k. take (sent_of sent k) (sends_of k w.sends))

-- the sends xs are, of each node k and in order, the first sent[k] of the world's
abbrev pub IsWhole : WorldFacts → List ℕ → List Send → Type 0
IsWhole w sent xs = (k : ℕ) → sends_of k xs ≡ take (sent_of sent k) (sends_of k w.sends)

-- all sends are posted that node j could hear in cycle s
abbrev pub AllPostedFor : WorldFacts → List ℕ → ℕ → ℕ → Type 0
AllPostedFor w sent j s = (k : ℕ) → is_needed w.topo k j s ≡ true → sends_below w.sends k (s - latency_of w.topo k j + 1) ≤ sent_of sent k
