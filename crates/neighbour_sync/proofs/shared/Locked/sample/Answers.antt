use Rattle.std.proofs.Common.{◌≤◌, ℕ, sym, subst, ◌∙◌}
use Rattle.std.specs.List.{Contains}
use Rattle.world_core.specs.declared.world.WorldFacts.{WorldFacts}
use Rattle.neighbour_sync.specs.Record.{AirRecord, IsSample}
use Rattle.neighbour_sync.proofs.Telling.{told}
use Rattle.neighbour_sync.proofs.shared.Locked.sample.Goals as goal

pub sample-requires-clause-table : goal.sample-requires-clause-table
sample-requires-clause-table g c = c.self.invariant.0 ∙ sym c.requires.table

pub sample-requires-clause-asked : goal.sample-requires-clause-asked
sample-requires-clause-asked g c = subst (λ (w : WorldFacts). Contains w.asks record { node = c.args.node; cycle = c.args.cycle }) (sym c.self.invariant.1) c.requires.asked

pub sample-requires-clause-floor : goal.sample-requires-clause-floor
sample-requires-clause-floor g c = subst (λ (f : ℕ). f ≤ c.args.cycle) (sym c.self.invariant.2) c.requires.floor

pub invariant_of-self : goal.invariant_of-self
invariant_of-self g c =
    let same = c.sample.ensures.same in
    let was = c.self.invariant in
    (same.0 ∙ was.0, same.1 ∙ was.1, same.2 ∙ was.2)

pub returns-clause-step : goal.returns-clause-step
returns-clause-step g c = subst (λ (r : AirRecord). IsSample r c.args.node c.args.cycle c.sample.result c.sample.new.self) c.self.view_is c.sample.ensures.step

pub returns-clause-told : goal.returns-clause-told
returns-clause-told g c = told _ c.self.inside.air _ _ c.sample.result c.sample.new.self c.self.invariant.1 c.sample.ensures.step
