-- What a node's try to sample the air answers, and what its seat has then seen. Own to this simulator.
use Rattle.std.specs.Prelude.{◌≡◌, ℕ, true, List, [], ◌∷◌, ◌++◌, Result, Ok, Err}
use Rattle.world_core.specs.declared.world.WorldFacts.{WorldFacts}
use Rattle.world_core.specs.Settled.{truth}
use Rattle.neighbour_sync.specs.Seats.{NodeFacts, node_asked}
use Rattle.neighbour_sync.specs.Loads.{IsBehind}
use Rattle.neighbour_sync.specs.declared.answers.Behind.{Behind}
use Rattle.neighbour_sync.specs.declared.answers.SampleOutcome.{SampleOutcome}
use Rattle.neighbour_sync.specs.declared.answers.SampleOutcome.TheVariants.{Heard, Halted, NoMemory}
use Rattle.neighbour_sync.specs.Looks.{looked, AreSeenPast}

-- The node looked at the halt once, and it was 1 where the answer is Halted and 0 elsewhere. Where it took the lock, it
-- had seen all that it may hear far enough, and what it heard is the true answer. Where it was told to come again, the
-- clock at which it looked last was not far enough.
abbrev pub IsTried : WorldFacts → NodeFacts → ℕ → Result SampleOutcome Behind → NodeFacts → Type 0
IsTried w old s (Ok (Heard h)) new = (h ≡ truth w old.number s) × ((loads : List (ℕ × ℕ)) × AreSeenPast w old.number s loads × (new ≡ looked old loads (0 ∷ [])))
IsTried w old s (Ok Halted) new = new ≡ node_asked old true
IsTried w old s (Ok NoMemory) new = (loads : List (ℕ × ℕ)) × AreSeenPast w old.number s loads × (new ≡ looked old loads (0 ∷ []))
IsTried w old s (Err b) new = IsBehind w old.number s b.node b.clock × ((loads : List (ℕ × ℕ)) × (new ≡ looked old (loads ++ (b.node, b.clock) ∷ []) (0 ∷ [])))
