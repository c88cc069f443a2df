use Rattle.std.proofs.Common.{◌≡◌, ℕ, ◌+◌, ◌*◌, ◌≤◌, ◌<◌, List, [], ap, ◌∙◌, subst, arith}
use Rattle.world_core.specs.Kept.{epoch}
use Rattle.checkpoint_text.specs.Onward.{SavedAt}
use Rattle.node_runner.specs.Scenario.{ScenarioOf}
use Rattle.state_text.specs.Text.{StateOf}
use Rattle.command_plans.specs.Ends.{Reads, reads}
use Rattle.command_plans.specs.Parts.{StopsAt, end_at}
use Rattle.command_plans.specs.Plan.{Give, Plan}
use Rattle.command_plans.specs.Reading.{Reached}
use Rattle.command_plans.proofs.Steps.{stopped_behind}
use Rattle.commands.specs.Plan.{come_or, cut_on_plan}
use Rattle.commands.specs.Texts.{look_on_text}
use Rattle.commands.proofs.Coming.{come_is, has_come, then_got, then_stopped}
use Rattle.commands.proofs.looks.read_saved_on.Goals as goal

abbrev next : List ℕ → ℕ → ScenarioOf × StateOf → Plan (List ℕ)
next name epochs at = come_or name at.0 at.1 (at.1.cycle + epochs * epoch)

pub returns-in-Err-clause-err : goal.returns-in-Err-clause-err
returns-in-Err-clause-err g c =
    stopped_behind _ (cut_on_plan c.args.file.now c.args.epochs c.args.name.now) (next c.args.name.now c.args.epochs) _ _ _ _ _ c.in-Err.ensures.err

pub come_to-requires : goal.come_to-requires
come_to-requires g c =
    let at = c.in-Ok.at in
    let cut = c.in-Ok.ensures.cut in
    let begun : c.cycle.result ≡ at.1.state.cycle = c.cycle.ensures ∙ ap (λ (a : SavedAt). a.floor) cut.fresh.is in
    let within : at.1.state.cycle + c.args.epochs * epoch < at.0.topo.limit = cut.within in
    record { fresh = cut.fresh; from = omega (arith, begun); to = omega (arith, begun, within) }

pub returns-in-Ok-come_to-clause-ok : goal.returns-in-Ok-come_to-clause-ok
returns-in-Ok-come_to-clause-ok g c =
    let at = c.in-Ok.at in
    let end : ℕ = c.cycle.result + c.args.epochs * epoch in
    let begun : c.cycle.result ≡ at.1.state.cycle = c.cycle.ensures ∙ ap (λ (a : SavedAt). a.floor) c.in-Ok.ensures.cut.fresh.is in
    let later : end ≡ at.1.state.cycle + c.args.epochs * epoch = ap (λ (n : ℕ). n + c.args.epochs * epoch) begun in
    let come = subst (λ (n : ℕ). Reached (g.S.Store.held c.args.store.now) (come_or c.args.name.now at.0 at.1.state n) (Give (look_on_text at.0 at.1.state end))) later (c.in-Ok-come_to.ensures.read _ (record { faults = 0; failed = [] })).1 in
    then_got _ (cut_on_plan c.args.file.now c.args.epochs c.args.name.now) (next c.args.name.now c.args.epochs) (at.0, at.1.state) _ _ _ _ c.in-Ok.ensures.ok
    (look_on_text at.0 at.1.state end) (look_on_text at.0 c.in-Ok-come_to.come.state c.in-Ok-come_to.come.floor)
    (come_is at.0 at.1.state end c.in-Ok-come_to.come c.in-Ok-come_to.ensures.come) come

pub returns-in-Ok-come_to-clause-come : goal.returns-in-Ok-come_to-clause-come
returns-in-Ok-come_to-clause-come g c =
    let at = c.in-Ok.at in
    has_come at.0 at.1.state (c.cycle.result + c.args.epochs * epoch) c.in-Ok-come_to.come c.in-Ok-come_to.ensures.come

pub returns-in-Err-come_to-clause-err : goal.returns-in-Err-come_to-clause-err
returns-in-Err-come_to-clause-err g c =
    let at = c.in-Ok.at in
    let begun : c.cycle.result ≡ at.1.state.cycle = c.cycle.ensures ∙ ap (λ (a : SavedAt). a.floor) c.in-Ok.ensures.cut.fresh.is in
    let later : c.cycle.result + c.args.epochs * epoch ≡ at.1.state.cycle + c.args.epochs * epoch = ap (λ (n : ℕ). n + c.args.epochs * epoch) begun in
    let end = end_at c.in-Err-come_to.trouble in
    let files = g.S.Store.held c.args.store.now in
    let store : Reads = reads (g.S.Store.faults c.read_cut_on.new.store) (g.S.Store.failed c.read_cut_on.new.store) in
    let stops = subst (λ (n : ℕ). StopsAt files (come_or c.args.name.now at.0 at.1.state n) store store end) later (c.in-Err-come_to.ensures.read files store) in
    then_stopped files (cut_on_plan c.args.file.now c.args.epochs c.args.name.now) (next c.args.name.now c.args.epochs) (at.0, at.1.state) _ store _ _ c.in-Ok.ensures.ok end _ _ stops c.tell.ensures
