-- What a node that waits for its sample is answered at last, and what its seat has then seen. Own to this simulator.
use Rattle.std.specs.Prelude.{◌≡◌, ℕ, suc, List, [], ◌∷◌, ◌++◌, replicate}
use Rattle.world_core.specs.declared.world.WorldFacts.{WorldFacts}
use Rattle.world_core.specs.Settled.{truth}
use Rattle.neighbour_sync.specs.Seats.{NodeFacts}
use Rattle.neighbour_sync.specs.declared.answers.SampleOutcome.{SampleOutcome}
use Rattle.neighbour_sync.specs.declared.answers.SampleOutcome.TheVariants.{Heard, Halted, NoMemory}
use Rattle.neighbour_sync.specs.Looks.{looked, AreSeenPast}

-- so many tries came to nothing, and in one more the node took the lock
abbrev pub IsEnd : WorldFacts → NodeFacts → ℕ → NodeFacts → Type 0
IsEnd w old s new = (tries : ℕ) × (loads : List (ℕ × ℕ)) × AreSeenPast w old.number s loads × (new ≡ looked old loads (replicate (suc tries) 0))

-- The node looked at the halt once in each try, and it was 1 in the last one where the answer is Halted, and 0
-- elsewhere.
abbrev pub IsPassed : WorldFacts → NodeFacts → ℕ → SampleOutcome → NodeFacts → Type 0
IsPassed w old s (Heard h) new = (h ≡ truth w old.number s) × IsEnd w old s new
IsPassed w old s Halted new = (tries : ℕ) × (loads : List (ℕ × ℕ)) × (new ≡ looked old loads (replicate tries 0 ++ 1 ∷ []))
IsPassed w old s NoMemory new = IsEnd w old s new
