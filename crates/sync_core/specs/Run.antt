-- Lists of steps of the core: where each step is allowed, what it does, and the first that is not. Own to this
-- simulator.
use Rattle.std.specs.Prelude.{◌≡◌, ℕ, ◌<◌, Bool, true, false, List, [], ◌∷◌, length, take, slice_index_or}
use Rattle.air_base.specs.declared.air.Ask.{Ask}
use Rattle.air_base.specs.declared.air.Heard.{Heard}
use Rattle.world_core.specs.declared.world.WorldFacts.{WorldFacts}
use Rattle.world_core.specs.Heard.{heard}
use Rattle.world_core.specs.Consistent.{AirState}
use Rattle.world_core.specs.Steps.{opening, MayRaise, MayPost, MaySample, after_raise, after_post, after_sample}
use Rattle.sync_core.specs.declared.steps.Step.{Step}
use Rattle.sync_core.specs.declared.steps.Step.TheVariants.{Raise, Post, Sample}
use Rattle.sync_core.specs.declared.steps.ReplayFault.{ReplayFault}
use Rattle.sync_core.specs.declared.steps.ReplayFault.TheVariants.{Illegal, NoMemory}

abbrev pub MayStep : AirState → Step → Type 0
MayStep a (Raise k c) = MayRaise a k c
MayStep a (Post k) = MayPost a k
MayStep a (Sample j s) = MaySample a j s

abbrev pub after_step : AirState → Step → AirState
after_step a (Raise k c) = after_raise a k c
after_step a (Post k) = after_post a k
after_step a (Sample j s) = after_sample a j s

-- the state after these steps, one after another
abbrev pub after_steps : AirState → List Step → AirState
after_steps a [] = a
after_steps a (x ∷ xs) = after_steps (after_step a x) xs

-- each of them is allowed where it comes
abbrev pub AllAllowed : AirState → List Step → Type 0
AllAllowed a [] = Unit {0}
AllAllowed a (x ∷ xs) = MayStep a x × AllAllowed (after_step a x) xs

-- whatever allowed steps come later, the recorded sends then still give the sample x its value
abbrev pub IsUnchanged : AirState → Ask × Heard → Type 0
IsUnchanged a x = (more : List Step) → AllAllowed a more → heard a.world.topo (after_steps a more).sends x.0.node x.0.cycle ≡ x.1

-- the step was allowed and was taken, or it was not
abbrev pub IsStepped : AirState → Step → Bool → AirState → Type 0
IsStepped a x true new = MayStep a x × (new ≡ after_step a x)
IsStepped a x false new = ¬ MayStep a x

-- the steps are all allowed from the opening of the world w, and lead to c
abbrev pub IsReplayed : WorldFacts → List Step → AirState → Type 0
IsReplayed w xs c = AllAllowed (opening w) xs × (c ≡ after_steps (opening w) xs)

-- step number p, counted from 0, is the first that is not allowed
pub record IsFirstIllegal (a : AirState) (xs : List Step) (p : ℕ) : Type 0 where
  pub place : p < length xs
  pub before : AllAllowed a (take p xs)
  pub illegal : (d : Step) → ¬ MayStep (after_steps a (take p xs)) (slice_index_or xs p d)

abbrev pub IsReplayFault : WorldFacts → List Step → ReplayFault → Type 0
IsReplayFault w xs (Illegal p) = IsFirstIllegal (opening w) xs p
IsReplayFault w xs NoMemory = Unit {0}
