use Rattle.command_plans.specs.Parts.{end_at}
use Rattle.command_plans.proofs.Steps.{stopped_behind}
use Rattle.commands.specs.Plan.{network_plan, state_plan}
use Rattle.commands.proofs.Networks.{got}
use Rattle.commands.proofs.SweepRuns.{both_got, next_stopped}
use Rattle.commands.proofs.sweeps.read_begun.Goals as goal

pub returns-in-Err-clause-err : goal.returns-in-Err-clause-err
returns-in-Err-clause-err g c = stopped_behind _ (network_plan c.args.file.now) _ _ _ _ _ _ c.in-Err.ensures.err

pub returns-in-Ok-read_state_parts-clause-ok : goal.returns-in-Ok-read_state_parts-clause-ok
returns-in-Ok-read_state_parts-clause-ok g c =
    both_got _ _ (network_plan c.args.file.now) (λ network. state_plan network c.args.name.now) c.in-Ok.network _ _ _ _ _ (got c.in-Ok.ensures.ok) c.in-Ok.ensures.held
    c.in-Ok-read_state_parts.state c.in-Ok-read_state_parts.ensures.read

pub returns-in-Err-read_state_parts-clause-err : goal.returns-in-Err-read_state_parts-clause-err
returns-in-Err-read_state_parts-clause-err g c =
    next_stopped _ _ (network_plan c.args.file.now) (λ network. state_plan network c.args.name.now) c.in-Ok.network _ _ _ _ _ (got c.in-Ok.ensures.ok) c.in-Ok.ensures.held
    (end_at c.in-Err-read_state_parts.trouble) _ _ c.in-Err-read_state_parts.ensures.read c.tell.ensures
