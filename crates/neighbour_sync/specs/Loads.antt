-- What the record learns from the clocks that it loads. Own to this simulator.
use Rattle.std.specs.Prelude.{◌≡◌, ℕ, ◌+◌, ◌-◌, ◌≤◌, ◌<◌, true, List, ◌++◌, length, slice_index_or}
use Rattle.world_core.specs.declared.world.WorldFacts.{WorldFacts}
use Rattle.world_core.specs.Topology.{is_needed, latency_of}
use Rattle.world_core.specs.Sends.{sends_below}
use Rattle.world_core.specs.Posted.{sent_of}
use Rattle.neighbour_sync.specs.Seats.{AirFacts}
use Rattle.neighbour_sync.specs.declared.answers.Behind.{Behind}

-- the seat has loaded these clocks besides, each with its node
abbrev pub looked : AirFacts → List (ℕ × ℕ) → AirFacts
looked a more = record a { loads = a.loads ++ more }

abbrev pub pair_of : Behind → ℕ × ℕ
pair_of b = (b.node, b.clock)

-- where node j may hear node k in cycle s, all sends of node k that it may hear are posted
abbrev pub IsReached : WorldFacts → List ℕ → ℕ → ℕ → ℕ → Type 0
IsReached w sent j s k = is_needed w.topo k j s ≡ true → sends_below w.sends k (s - latency_of w.topo k j + 1) ≤ sent_of sent k

-- node j may hear node k in cycle s, and the cycle c is not past the last one whose sends it may hear
abbrev pub IsBehind : WorldFacts → ℕ → ℕ → ℕ → ℕ → Type 0
IsBehind w j s k c = (is_needed w.topo k j s ≡ true) × (c ≤ s - latency_of w.topo k j)

-- the clocks of the nodes below n were loaded, one after another, and each was at least f
abbrev pub AreReached : ℕ → ℕ → List (ℕ × ℕ) → Type 0
AreReached n f more = (length more ≡ n) × ((k : ℕ) (d : ℕ × ℕ) → k < n → ((slice_index_or more k d).0 ≡ k) × (f ≤ (slice_index_or more k d).1))
