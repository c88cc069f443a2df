-- What a node sees of the others' clocks through its own seat. Own to this simulator.
use Rattle.std.specs.Prelude.{◌≡◌, ℕ, ◌-◌, ◌<◌, true, List, ◌++◌}
use Rattle.std.specs.List.{All, Contains}
use Rattle.world_core.specs.declared.world.WorldFacts.{WorldFacts}
use Rattle.world_core.specs.Topology.{is_needed, latency_of, neighbours}
use Rattle.neighbour_sync.specs.Seats.{NodeFacts}

-- the seat has looked at these clocks besides, each with its node
abbrev pub peeked : NodeFacts → List (ℕ × ℕ) → NodeFacts
peeked n loads = record n { loads = n.loads ++ loads }

-- the seat has looked at these clocks, and at the halt with these values, besides
abbrev pub looked : NodeFacts → List (ℕ × ℕ) → List ℕ → NodeFacts
looked n loads halts = record n { loads = n.loads ++ loads; halts = n.halts ++ halts }

-- where node j may hear node k in cycle s, one of these looks was at a clock of node k past the last cycle whose sends
-- may be heard
abbrev pub IsSeenPast : WorldFacts → ℕ → ℕ → List (ℕ × ℕ) → ℕ → Type 0
IsSeenPast w j s loads k = is_needed w.topo k j s ≡ true → (c : ℕ) × (s - latency_of w.topo k j < c) × Contains loads (k, c)

-- that of each node that node j hears
abbrev pub AreSeenPast : WorldFacts → ℕ → ℕ → List (ℕ × ℕ) → Type 0
AreSeenPast w j s loads = All (IsSeenPast w j s loads) (neighbours w.topo j)
