-- What the answers of the air, waiting or not, have in common.
use Rattle.std.proofs.Common.{◌≡◌, ℕ, ◌∷◌, [], ◌++◌, List, true, replicate, suc, ap, Result, Ok, Err}
use Rattle.world_core.specs.declared.world.WorldFacts.{WorldFacts}
use Rattle.neighbour_sync.specs.Seats.{NodeFacts, node_asked}
use Rattle.neighbour_sync.specs.declared.answers.Behind.{Behind}
use Rattle.neighbour_sync.specs.declared.answers.SampleOutcome.{SampleOutcome}
use Rattle.neighbour_sync.specs.declared.answers.SampleOutcome.TheVariants.{Heard, Halted, NoMemory}
use Rattle.neighbour_sync.specs.Looks.{looked}
use Rattle.neighbour_sync.specs.Tries.{IsTried}
use Rattle.neighbour_sync.specs.Waits.{IsPassed}
use Rattle.fleet_threads.specs.Answers.{HasLooked, IsAnswered}

look : (old new : NodeFacts) (loads : List (ℕ × ℕ)) (halts : List ℕ) → new ≡ looked old loads halts → HasLooked old new
look old new loads halts e = record {
  table = ap (λ (a : NodeFacts). a.table) e;
  world = ap (λ (a : NodeFacts). a.world) e;
  number = ap (λ (a : NodeFacts). a.number) e;
  clock = ap (λ (a : NodeFacts). a.clock) e;
  told = ap (λ (a : NodeFacts). a.told) e;
}

look_halt : (old new : NodeFacts) → new ≡ node_asked old true → HasLooked old new
look_halt old new e = record {
  table = ap (λ (a : NodeFacts). a.table) e;
  world = ap (λ (a : NodeFacts). a.world) e;
  number = ap (λ (a : NodeFacts). a.number) e;
  clock = ap (λ (a : NodeFacts). a.clock) e;
  told = ap (λ (a : NodeFacts). a.told) e;
}

pub tried : (w : WorldFacts) (old : NodeFacts) (s : ℕ) (r : Result SampleOutcome Behind) (new : NodeFacts) → IsTried w old s r new → IsAnswered w old s r new
tried w old s (Ok (Heard h)) new t = (t.0, look old new t.1.0 (0 ∷ []) t.1.2)
tried w old s (Ok Halted) new t = look_halt old new t
tried w old s (Ok NoMemory) new t = look old new t.0 (0 ∷ []) t.2
tried w old s (Err b) new t = look old new (t.1.0 ++ (b.node, b.clock) ∷ []) (0 ∷ []) t.1.1

pub passed : (w : WorldFacts) (old : NodeFacts) (s : ℕ) (r : SampleOutcome) (new : NodeFacts) → IsPassed w old s r new → IsAnswered w old s (Ok r) new
passed w old s (Heard h) new t = (t.0, look old new t.1.1 (replicate (suc t.1.0) 0) t.1.3)
passed w old s Halted new t = look old new t.1 (replicate t.0 0 ++ 1 ∷ []) t.2
passed w old s NoMemory new t = look old new t.1 (replicate (suc t.0) 0) t.3
