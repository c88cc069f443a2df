use Rattle.std.proofs.Common.{ℕ, List, []}
use Rattle.node_runner.specs.Scenario.{ScenarioOf}
use Rattle.state_text.specs.Text.{StateOf}
use Rattle.command_plans.specs.Parts.{end_at}
use Rattle.command_plans.specs.Plan.{Plan}
use Rattle.command_plans.proofs.Steps.{stopped_behind}
use Rattle.commands.specs.Plan.{come_or, look_from_plan}
use Rattle.commands.specs.Texts.{look_on_text}
use Rattle.commands.proofs.Coming.{come_is, has_come, then_got, then_stopped}
use Rattle.commands.proofs.looks.read_look_on.Goals as goal

abbrev next : List ℕ → ℕ → ScenarioOf × StateOf → Plan (List ℕ)
next name cycle at = come_or name at.0 at.1 cycle

pub returns-in-Err-clause-err : goal.returns-in-Err-clause-err
returns-in-Err-clause-err g c =
    stopped_behind _ (look_from_plan c.args.file.now c.args.cycle c.args.name.now) (next c.args.name.now c.args.cycle) _ _ _ _ _ c.in-Err.ensures.err

pub returns-in-Ok-come_to-clause-ok : goal.returns-in-Ok-come_to-clause-ok
returns-in-Ok-come_to-clause-ok g c =
    let at = c.in-Ok.at in
    then_got _ (look_from_plan c.args.file.now c.args.cycle c.args.name.now) (next c.args.name.now c.args.cycle) (at.0, at.1.state) _ _ _ _ c.in-Ok.ensures.ok
    (look_on_text at.0 at.1.state c.args.cycle) (look_on_text at.0 c.in-Ok-come_to.come.state c.in-Ok-come_to.come.floor)
    (come_is at.0 at.1.state c.args.cycle c.in-Ok-come_to.come c.in-Ok-come_to.ensures.come)
    (c.in-Ok-come_to.ensures.read (g.S.Store.held c.args.store.now) (record { faults = 0; failed = [] })).1

pub returns-in-Ok-come_to-clause-come : goal.returns-in-Ok-come_to-clause-come
returns-in-Ok-come_to-clause-come g c =
    let at = c.in-Ok.at in
    has_come at.0 at.1.state c.args.cycle c.in-Ok-come_to.come c.in-Ok-come_to.ensures.come

pub returns-in-Err-come_to-clause-err : goal.returns-in-Err-come_to-clause-err
returns-in-Err-come_to-clause-err g c =
    let at = c.in-Ok.at in
    then_stopped _ (look_from_plan c.args.file.now c.args.cycle c.args.name.now) (next c.args.name.now c.args.cycle) (at.0, at.1.state) _ _ _ _ c.in-Ok.ensures.ok
    (end_at c.in-Err-come_to.trouble) _ _ (c.in-Err-come_to.ensures.read (g.S.Store.held c.args.store.now) _) c.tell.ensures
