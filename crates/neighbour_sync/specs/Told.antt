-- What a node may take of the record's answer. Own to this simulator.
use Rattle.std.specs.Prelude.{◌≡◌, ℕ}
use Rattle.world_core.specs.declared.world.WorldFacts.{WorldFacts}
use Rattle.air_base.specs.declared.air.Sampled.{Sampled}
use Rattle.air_base.specs.declared.air.Sampled.TheVariants.{Heard, NotYet, NoMemory}
use Rattle.world_core.specs.Settled.{truth}

-- what is heard is the true answer to a sample of node j in cycle s; the other answers tell nothing
abbrev pub IsTold : WorldFacts → ℕ → ℕ → Sampled → Type 0
IsTold w j s (Heard h) = h ≡ truth w j s
IsTold w j s (NotYet k c) = Unit {0}
IsTold w j s NoMemory = Unit {0}
