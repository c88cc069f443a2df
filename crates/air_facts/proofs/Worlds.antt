-- No step changes the world.
use Rattle.std.proofs.Common.{◌≡◌, List, [], ◌∷◌, refl}
use Rattle.world_core.specs.Consistent.{AirState}
use Rattle.sync_core.specs.declared.steps.Step.{Step}
use Rattle.sync_core.specs.declared.steps.Step.TheVariants.{Raise, Post, Sample}
use Rattle.sync_core.specs.Run.{after_step, after_steps}

pub world_stays : (a : AirState) (xs : List Step) → (after_steps a xs).world ≡ a.world
world_stays a [] = refl
world_stays a (Raise k c ∷ xs) = world_stays (after_step a (Raise k c)) xs
world_stays a (Post k ∷ xs) = world_stays (after_step a (Post k)) xs
world_stays a (Sample j s ∷ xs) = world_stays (after_step a (Sample j s)) xs
