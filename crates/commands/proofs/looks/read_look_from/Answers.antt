use Rattle.std.proofs.Common.{◌≡◌, ◌<◌, ◌≤◌, ap, ◌∙◌, arith}
use Rattle.world_core.specs.Topology.{Topology}
use Rattle.checkpoint_text.specs.Onward.{SavedAt}
use Rattle.command_plans.specs.Parts.{end_at}
use Rattle.command_plans.proofs.Steps.{stopped_behind}
use Rattle.commands.specs.Plan.{look_from_or, network_plan}
use Rattle.commands.proofs.Coming.{look_gives, look_past_end, look_too_early}
use Rattle.commands.proofs.Onwards.{chosen, not_chosen, state_stopped}
use Rattle.commands.proofs.looks.read_look_from.Goals as goal

pub returns-in-Err-clause-err : goal.returns-in-Err-clause-err
returns-in-Err-clause-err g c = stopped_behind _ (network_plan c.args.file.now) _ _ _ _ _ _ c.in-Err.ensures.err

pub returns-in-Err-read_saved-clause-err : goal.returns-in-Err-read_saved-clause-err
returns-in-Err-read_saved-clause-err g c =
    state_stopped _ _ c.args.file.now c.args.name.now (look_from_or c.args.name.now c.args.cycle) c.in-Ok.network _ _ _ _ _ c.in-Ok.ensures.ok c.in-Ok.ensures.held (end_at c.in-Err-read_saved.trouble) _ _
    c.in-Err-read_saved.ensures.read c.tell.ensures

pub returns-then-cycle-clause-err : goal.returns-then-cycle-clause-err
returns-then-cycle-clause-err g c =
    let saved : SavedAt = c.in-Ok-read_saved.saved in
    let at : c.cycle.result ≡ saved.state.cycle = c.cycle.ensures ∙ ap (λ (a : SavedAt). a.floor) c.in-Ok-read_saved.ensures.fresh.is in
    let test = c.if-cycle.true in
    let early : c.args.cycle < saved.state.cycle = omega arith in
    not_chosen _ _ c.args.file.now c.args.name.now (look_from_or c.args.name.now c.args.cycle) c.in-Ok.network _ _ _ _ _ c.in-Ok.ensures.ok c.in-Ok.ensures.held saved.state _ _ _ c.in-Ok-read_saved.ensures.read
    (look_too_early c.args.name.now c.args.cycle c.in-Ok.network saved.state early) c.tell-then-cycle.ensures

pub returns-then-cycle-limit-clause-ok : goal.returns-then-cycle-limit-clause-ok
returns-then-cycle-limit-clause-ok g c =
    let saved : SavedAt = c.in-Ok-read_saved.saved in
    let at : c.cycle.result ≡ saved.state.cycle = c.cycle.ensures ∙ ap (λ (a : SavedAt). a.floor) c.in-Ok-read_saved.ensures.fresh.is in
    let limit : c.limit.result ≡ c.in-Ok.network.topo.limit = c.limit.ensures.value ∙ ap (λ (t : Topology). t.limit) c.lawful_topo.ensures.value in
    let first = c.if-cycle.false in
    let test = c.if-cycle-limit.true in
    let from : saved.state.cycle ≤ c.args.cycle = omega arith in
    let to : c.args.cycle ≤ c.in-Ok.network.topo.limit = omega arith in
    chosen _ _ c.args.file.now c.args.name.now (look_from_or c.args.name.now c.args.cycle) c.in-Ok.network _ _ _ _ _ c.in-Ok.ensures.ok c.in-Ok.ensures.held saved.state c.in-Ok-read_saved.ensures.read
    (look_gives c.args.name.now c.args.cycle c.in-Ok.network saved.state from to)

pub returns-then-cycle-limit-clause-look : goal.returns-then-cycle-limit-clause-look
returns-then-cycle-limit-clause-look g c =
    let saved : SavedAt = c.in-Ok-read_saved.saved in
    let at : c.cycle.result ≡ saved.state.cycle = c.cycle.ensures ∙ ap (λ (a : SavedAt). a.floor) c.in-Ok-read_saved.ensures.fresh.is in
    let limit : c.limit.result ≡ c.in-Ok.network.topo.limit = c.limit.ensures.value ∙ ap (λ (t : Topology). t.limit) c.lawful_topo.ensures.value in
    let first = c.if-cycle.false in
    let test = c.if-cycle-limit.true in
    record { fresh = c.in-Ok-read_saved.ensures.fresh; from = omega arith; to = omega arith }

pub returns-clause-err : goal.returns-clause-err
returns-clause-err g c =
    let saved : SavedAt = c.in-Ok-read_saved.saved in
    let at : c.cycle.result ≡ saved.state.cycle = c.cycle.ensures ∙ ap (λ (a : SavedAt). a.floor) c.in-Ok-read_saved.ensures.fresh.is in
    let limit : c.limit.result ≡ c.in-Ok.network.topo.limit = c.limit.ensures.value ∙ ap (λ (t : Topology). t.limit) c.lawful_topo.ensures.value in
    let first = c.if-cycle.false in
    let test = c.if-cycle-limit.false in
    let from : saved.state.cycle ≤ c.args.cycle = omega arith in
    let over : c.in-Ok.network.topo.limit < c.args.cycle = omega arith in
    not_chosen _ _ c.args.file.now c.args.name.now (look_from_or c.args.name.now c.args.cycle) c.in-Ok.network _ _ _ _ _ c.in-Ok.ensures.ok c.in-Ok.ensures.held saved.state _ _ _ c.in-Ok-read_saved.ensures.read
    (look_past_end c.args.name.now c.args.cycle c.in-Ok.network saved.state from over) c.tell-2.ensures
