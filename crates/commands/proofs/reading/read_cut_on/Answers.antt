use Rattle.std.proofs.Common.{◌≡◌, ◌+◌, ◌*◌, ◌<◌, ◌≤◌, ap, ◌∙◌, arith}
use Rattle.world_core.specs.Topology.{Topology}
use Rattle.world_core.specs.Kept.{epoch}
use Rattle.checkpoint_text.specs.Onward.{SavedAt}
use Rattle.command_plans.specs.Parts.{end_at}
use Rattle.command_plans.proofs.Steps.{stopped_behind}
use Rattle.commands.specs.Plan.{cut_on_or, network_plan}
use Rattle.commands.proofs.Onwards.{chosen, cut_gives, cut_past_end, not_chosen, state_stopped}
use Rattle.commands.proofs.reading.read_cut_on.Goals as goal

pub returns-in-Err-clause-err : goal.returns-in-Err-clause-err
returns-in-Err-clause-err g c = stopped_behind _ (network_plan c.args.file.now) _ _ _ _ _ _ c.in-Err.ensures.err

pub returns-in-Err-read_saved-clause-err : goal.returns-in-Err-read_saved-clause-err
returns-in-Err-read_saved-clause-err g c =
    state_stopped _ _ c.args.file.now c.args.name.now (cut_on_or c.args.name.now c.args.epochs) c.in-Ok.network _ _ _ _ _ c.in-Ok.ensures.ok c.in-Ok.ensures.held (end_at c.in-Err-read_saved.trouble) _ _
    c.in-Err-read_saved.ensures.read c.tell.ensures

pub returns-then-end-limit-clause-ok : goal.returns-then-end-limit-clause-ok
returns-then-end-limit-clause-ok g c =
    let saved : SavedAt = c.in-Ok-read_saved.saved in
    let at : c.cycle.result ≡ saved.state.cycle = c.cycle.ensures ∙ ap (λ (a : SavedAt). a.floor) c.in-Ok-read_saved.ensures.fresh.is in
    let limit : c.limit.result ≡ c.in-Ok.network.topo.limit = c.limit.ensures.value ∙ ap (λ (t : Topology). t.limit) c.lawful_topo.ensures.value in
    let test = c.if-end-limit.true in
    let below : saved.state.cycle + c.args.epochs * epoch < c.in-Ok.network.topo.limit = omega arith in
    chosen _ _ c.args.file.now c.args.name.now (cut_on_or c.args.name.now c.args.epochs) c.in-Ok.network _ _ _ _ _ c.in-Ok.ensures.ok c.in-Ok.ensures.held saved.state c.in-Ok-read_saved.ensures.read
    (cut_gives c.args.name.now c.args.epochs c.in-Ok.network saved.state below)

pub returns-then-end-limit-clause-cut : goal.returns-then-end-limit-clause-cut
returns-then-end-limit-clause-cut g c =
    let saved : SavedAt = c.in-Ok-read_saved.saved in
    let at : c.cycle.result ≡ saved.state.cycle = c.cycle.ensures ∙ ap (λ (a : SavedAt). a.floor) c.in-Ok-read_saved.ensures.fresh.is in
    let limit : c.limit.result ≡ c.in-Ok.network.topo.limit = c.limit.ensures.value ∙ ap (λ (t : Topology). t.limit) c.lawful_topo.ensures.value in
    let test = c.if-end-limit.true in
    let below : saved.state.cycle + c.args.epochs * epoch < c.in-Ok.network.topo.limit = omega arith in
    record { fresh = c.in-Ok-read_saved.ensures.fresh; within = below }

pub returns-clause-err : goal.returns-clause-err
returns-clause-err g c =
    let saved : SavedAt = c.in-Ok-read_saved.saved in
    let at : c.cycle.result ≡ saved.state.cycle = c.cycle.ensures ∙ ap (λ (a : SavedAt). a.floor) c.in-Ok-read_saved.ensures.fresh.is in
    let limit : c.limit.result ≡ c.in-Ok.network.topo.limit = c.limit.ensures.value ∙ ap (λ (t : Topology). t.limit) c.lawful_topo.ensures.value in
    let test = c.if-end-limit.false in
    let over : c.in-Ok.network.topo.limit ≤ saved.state.cycle + c.args.epochs * epoch = omega arith in
    not_chosen _ _ c.args.file.now c.args.name.now (cut_on_or c.args.name.now c.args.epochs) c.in-Ok.network _ _ _ _ _ c.in-Ok.ensures.ok c.in-Ok.ensures.held saved.state _ _ _ c.in-Ok-read_saved.ensures.read
    (cut_past_end c.args.name.now c.args.epochs c.in-Ok.network saved.state over) c.tell-2.ensures
