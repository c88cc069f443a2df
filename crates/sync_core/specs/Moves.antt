-- Lists of steps and cuts of the record, in whatever order they come. Own to this simulator.
use Rattle.std.specs.Prelude.{◌≡◌, ℕ, ◌≤◌, List, [], ◌∷◌}
use Rattle.std.specs.List.{Contains}
use Rattle.air_base.specs.declared.air.Ask.{Ask}
use Rattle.air_base.specs.declared.air.Heard.{Heard}
use Rattle.world_core.specs.Heard.{heard}
use Rattle.world_core.specs.Settled.{truth}
use Rattle.world_core.specs.Consistent.{AirState}
use Rattle.world_core.specs.Steps.{MayCut, after_cut}
use Rattle.sync_core.specs.declared.steps.Step.{Step}
use Rattle.sync_core.specs.Run.{MayStep, after_step}

-- a raise, a post or a sample of a node, or a cut of the record up to a cycle
pub data Move : Type 0 where
  Take : (step : Step) → Move
  Cut : (floor : ℕ) → Move

abbrev pub MayMove : AirState → Move → Type 0
MayMove a (Take x) = MayStep a x
MayMove a (Cut f) = MayCut a f

abbrev pub after_move : AirState → Move → AirState
after_move a (Take x) = after_step a x
after_move a (Cut f) = after_cut a f

-- the state after these moves, one after another
abbrev pub after_moves : AirState → List Move → AirState
after_moves a [] = a
after_moves a (x ∷ xs) = after_moves (after_move a x) xs

-- each of them is allowed where it comes
abbrev pub MayMoveAll : AirState → List Move → Type 0
MayMoveAll a [] = Unit {0}
MayMoveAll a (x ∷ xs) = MayMove a x × MayMoveAll (after_move a x) xs

-- A recorded sample x has the true answer. And whatever allowed moves come later: until a cut goes past it, it stands
-- in the record as it was, and is what the recorded sends give.
pub record IsForGood (a : AirState) (x : Ask × Heard) : Type 0 where
  pub right : x.1 ≡ truth a.world x.0.node x.0.cycle
  pub stands : (more : List Move) → MayMoveAll a more → (after_moves a more).floor ≤ x.0.cycle
      → Contains (after_moves a more).samples x × (heard a.world.topo (after_moves a more).sends x.0.node x.0.cycle ≡ x.1)
