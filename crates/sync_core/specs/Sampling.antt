-- What a sample answers: what is heard, or the first node that it has to wait for. Own to this simulator.
use Rattle.std.specs.Prelude.{◌≡◌, ℕ, ◌-◌, ◌≤◌, ◌<◌, true, List}
use Rattle.air_base.specs.declared.air.Sampled.{Sampled}
use Rattle.air_base.specs.declared.air.Sampled.TheVariants.{Heard, NotYet, NoMemory}
use Rattle.world_core.specs.Topology.{Topology, is_needed, latency_of}
use Rattle.world_core.specs.Settled.{truth}
use Rattle.world_core.specs.Consistent.{AirState, clock_of}
use Rattle.world_core.specs.Steps.{AllPassed, after_sample}

-- node j could hear node k in cycle s, and node k has not passed the last cycle whose sends it could hear
abbrev pub IsBehind : Topology → List ℕ → ℕ → ℕ → ℕ → Type 0
IsBehind t clocks j s k = (is_needed t k j s ≡ true) × (clock_of clocks k ≤ s - latency_of t k j)

-- every node that it could hear has passed it
abbrev pub NoneBehind : Topology → List ℕ → ℕ → ℕ → Type 0
NoneBehind t clocks j s = (k : ℕ) → ¬ IsBehind t clocks j s k

-- k is the lowest node that has not
abbrev pub IsFirstBehind : Topology → List ℕ → ℕ → ℕ → ℕ → Type 0
IsFirstBehind t clocks j s k = IsBehind t clocks j s k × ((m : ℕ) → m < k → ¬ IsBehind t clocks j s m)

-- The step, with the true value; or the lowest node that is behind, with its clock, and nothing is changed.
-- Where none is behind, nothing but want of memory keeps the step from being taken.
abbrev pub IsSampled : AirState → ℕ → ℕ → Sampled → AirState → Type 0
IsSampled a j s (Heard h) new = AllPassed a j s × (new ≡ after_sample a j s) × (h ≡ truth a.world j s)
IsSampled a j s (NotYet k c) new = IsFirstBehind a.world.topo a.clocks j s k × (c ≡ clock_of a.clocks k) × (new ≡ a)
IsSampled a j s NoMemory new = AllPassed a j s × (new ≡ a)
