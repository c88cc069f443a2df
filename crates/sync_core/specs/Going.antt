-- That some move is always allowed. Own to this simulator.
use Rattle.std.specs.Prelude.{ℕ, ◌+◌, ◌≤◌, ◌<◌, ◌⊎◌}
use Rattle.world_core.specs.Consistent.{AirState, clock_of}
use Rattle.world_core.specs.Steps.{MayRaise, MayPost, after_post}

-- no node's clock stands below that of node j
abbrev pub IsFurthestBehind : AirState → ℕ → Type 0
IsFurthestBehind a j = (k : ℕ) → k < a.world.topo.nodes → clock_of a.clocks j ≤ clock_of a.clocks k

-- node k may raise its clock by one cycle, at once or behind its next send
abbrev pub MayGoOn : AirState → ℕ → Type 0
MayGoOn a k = MayRaise a k (clock_of a.clocks k + 1) ⊎ (MayPost a k × MayRaise (after_post a k) k (clock_of a.clocks k + 1))
