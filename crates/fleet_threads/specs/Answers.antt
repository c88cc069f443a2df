-- What a node is answered at a sample, waiting or not, and what becomes of its part of the air. Own to this simulator.
use Rattle.std.specs.Prelude.{◌≡◌, ℕ, ◌+◌, ◌≤◌, length, Result, Ok, Err}
use Rattle.world_core.specs.declared.world.WorldFacts.{WorldFacts}
use Rattle.world_core.specs.Settled.{truth}
use Rattle.neighbour_sync.specs.Seats.{NodeFacts}
use Rattle.neighbour_sync.specs.declared.answers.Behind.{Behind}
use Rattle.neighbour_sync.specs.declared.answers.SampleOutcome.{SampleOutcome}
use Rattle.neighbour_sync.specs.declared.answers.SampleOutcome.TheVariants.{Heard, Halted, NoMemory}

-- it may have looked at words, and nothing else has changed
pub record HasLooked (old new : NodeFacts) : Type 0 where
  pub table : new.table ≡ old.table
  pub world : new.world ≡ old.world
  pub number : new.number ≡ old.number
  pub clock : new.clock ≡ old.clock
  pub told : new.told ≡ old.told

-- it has looked at the halt once more at most, as it does in each try to sample the air
abbrev pub LooksOnce : NodeFacts → NodeFacts → Type 0
LooksOnce old new = length new.halts ≤ length old.halts + 1

-- what is heard is the true answer
abbrev pub IsAnswered : WorldFacts → NodeFacts → ℕ → Result SampleOutcome Behind → NodeFacts → Type 0
IsAnswered w old s (Ok (Heard h)) new = (h ≡ truth w old.number s) × HasLooked old new
IsAnswered w old s (Ok Halted) new = HasLooked old new
IsAnswered w old s (Ok NoMemory) new = HasLooked old new
IsAnswered w old s (Err b) new = HasLooked old new
