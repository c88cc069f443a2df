use Rattle.command_plans.specs.Parts.{end_at}
use Rattle.command_plans.proofs.Steps.{stopped_behind}
use Rattle.commands.specs.Plan.{state_plan, watch_plan}
use Rattle.commands.proofs.SweepRuns.{both_got, next_stopped}
use Rattle.commands.proofs.watches.read_watch_begun.Goals as goal

pub returns-in-Err-clause-err : goal.returns-in-Err-clause-err
returns-in-Err-clause-err g c = stopped_behind _ (watch_plan c.args.file.now c.args.to c.args.places.now) _ _ _ _ _ _ c.in-Err.ensures.err

pub returns-in-Ok-read_state_parts-clause-ok : goal.returns-in-Ok-read_state_parts-clause-ok
returns-in-Ok-read_state_parts-clause-ok g c =
    let it = c.in-Ok.it in
    both_got _ _ (watch_plan c.args.file.now c.args.to c.args.places.now) (λ it. state_plan it.0 c.args.state.now) (it.0, it.1.places.items) _ _ _ _ _ c.in-Ok.ensures.ok c.in-Ok.ensures.held
    c.in-Ok-read_state_parts.parts c.in-Ok-read_state_parts.ensures.read

pub returns-in-Err-read_state_parts-clause-err : goal.returns-in-Err-read_state_parts-clause-err
returns-in-Err-read_state_parts-clause-err g c =
    let it = c.in-Ok.it in
    next_stopped _ _ (watch_plan c.args.file.now c.args.to c.args.places.now) (λ it. state_plan it.0 c.args.state.now) (it.0, it.1.places.items) _ _ _ _ _ c.in-Ok.ensures.ok c.in-Ok.ensures.held
    (end_at c.in-Err-read_state_parts.trouble) _ _ c.in-Err-read_state_parts.ensures.read c.tell.ensures
