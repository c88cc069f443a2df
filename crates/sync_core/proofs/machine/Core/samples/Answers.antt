use Rattle.std.proofs.Common.{List, sym, subst}
use Rattle.std.specs.List.{All}
use Rattle.air_base.specs.declared.air.Ask.{Ask}
use Rattle.air_base.specs.declared.air.Heard.{Heard}
use Rattle.world_core.specs.Consistent.{AirState}
use Rattle.sync_core.specs.Run.{IsUnchanged}
use Rattle.sync_core.proofs.Inductive.{all_stay}
use Rattle.sync_core.proofs.machine.Core.samples.Given
use Rattle.sync_core.proofs.machine.Core.samples.Goals as goal

abbrev before : (g : Given.Over) → goal.After-deref g → AirState
before g c = record { world = g.W.World.facts c.self.inside.world; clocks = c.self.inside.clocks.items; sent = c.self.inside.sent.items; floor = 0; sends = c.self.inside.log.sends; samples = c.self.inside.samples.items }

pub returns-clause-unchanged : goal.returns-clause-unchanged
returns-clause-unchanged g c =
    subst (λ (xs : List (Ask × Heard)). All (IsUnchanged c.args.self.now) xs) (sym c.deref.ensures.value)
    (subst (λ (a : AirState). All (IsUnchanged a) c.self.inside.samples.items) c.self.view_is (all_stay (before g c) c.self.invariant.0))
