use Rattle.std.proofs.Common.{Bool, sym, subst, get_or}
use Rattle.world_core.specs.Consistent.{IsConsistent}
use Rattle.world_core.specs.Steps.{opening}
use Rattle.sync_core.specs.declared.steps.Step.{Step}
use Rattle.sync_core.specs.declared.steps.Step.TheVariants.{Raise}
use Rattle.sync_core.specs.Run.{IsStepped}
use Rattle.sync_core.proofs.Inductive.{step_keeps}
use Rattle.sync_core.proofs.Runs.{next_reached, is_first}
use Rattle.sync_core.proofs.run.replay.Goals as goal

pub loop-place-preserved : goal.loop-place-preserved
loop-place-preserved c =
    let none : Step = Raise 0 0 in
    let x = get_or c.args.steps.now c.loop-place.place none in
    let taken = subst (λ (b : Bool). IsStepped c.loop-place.core x b c.try_step.new.core) c.in-Ok-true.field-0-test c.in-Ok-true.ensures in
    record {
      reached = next_reached (opening c.args.world) c.args.steps.now c.loop-place.place none c.loop-place.core c.try_step.new.core c.loop-place-test.true c.loop-place.invariant.reached taken.0 taken.1;
      consistent = subst IsConsistent (sym taken.1) (step_keeps c.loop-place.core x c.loop-place.invariant.consistent taken.0);
    }

pub returns-in-Ok-false-clause-replayed : goal.returns-in-Ok-false-clause-replayed
returns-in-Ok-false-clause-replayed c =
    let none : Step = Raise 0 0 in
    let x = get_or c.args.steps.now c.loop-place.place none in
    let refused = subst (λ (b : Bool). IsStepped c.loop-place.core x b c.try_step.new.core) c.in-Ok-false.field-0-test c.in-Ok-false.ensures in
    is_first (opening c.args.world) c.args.steps.now c.loop-place.place none c.loop-place.core c.loop-place-test.true c.loop-place.invariant.reached refused
