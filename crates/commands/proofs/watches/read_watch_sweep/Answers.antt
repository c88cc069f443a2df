use Rattle.std.proofs.Common.{◌≡◌, ◌<◌, ℕ, ap, ◌∙◌, subst}
use Rattle.std.specs.List.{All}
use Rattle.world_core.specs.Topology.{Topology}
use Rattle.moves_text.specs.Moves.{MoveOf}
use Rattle.command_plans.specs.Ends.{reads}
use Rattle.command_plans.specs.Plan.{Give, moves_plan}
use Rattle.command_plans.specs.Parts.{StopsAt, end_at}
use Rattle.command_plans.specs.Reading.{Reached}
use Rattle.command_plans.proofs.Steps.{stopped_behind}
use Rattle.commands.specs.Plan.{watch_on_plan}
use Rattle.commands.proofs.SweepRuns.{both_got, next_stopped}
use Rattle.commands.proofs.watches.read_watch_sweep.Goals as goal

pub returns-in-Err-clause-err : goal.returns-in-Err-clause-err
returns-in-Err-clause-err g c = stopped_behind _ (watch_on_plan c.args.file.now c.args.from c.args.to c.args.places.now c.args.state.now) _ _ _ _ _ _ c.in-Err.ensures.err

pub returns-in-Ok-read_moves-clause-ok : goal.returns-in-Ok-read_moves-clause-ok
returns-in-Ok-read_moves-clause-ok g c =
    let count : c.nodes-nodes.result ≡ c.in-Ok.begun.0.0.topo.nodes = c.nodes-nodes.ensures.value ∙ ap (λ (t : Topology). t.nodes) c.lawful_topo.ensures.value in
    let read = c.in-Ok-read_moves.ensures.read in
    let it = c.in-Ok.begun in
    both_got _ _ (watch_on_plan c.args.file.now c.args.from c.args.to c.args.places.now c.args.state.now) (λ it. moves_plan it.0.0.topo.nodes c.args.moves.now) ((it.0.0, it.0.1.places.items), it.1) _ _ _ _ _ c.in-Ok.ensures.ok c.in-Ok.ensures.held c.in-Ok-read_moves.moves.items
    (read.0, subst (λ (n : ℕ). Reached (g.S.Store.held c.read_watch_on.new.store) (moves_plan n c.args.moves.now) (Give c.in-Ok-read_moves.moves.items)) count read.1)

pub returns-in-Ok-read_moves-clause-fit : goal.returns-in-Ok-read_moves-clause-fit
returns-in-Ok-read_moves-clause-fit g c =
    let count : c.nodes-nodes.result ≡ c.in-Ok.begun.0.0.topo.nodes = c.nodes-nodes.ensures.value ∙ ap (λ (t : Topology). t.nodes) c.lawful_topo.ensures.value in
    record {
      sweep = record {
        fit = c.in-Ok.ensures.fit.fit;
        known = subst (λ (n : ℕ). All (λ (m : MoveOf). m.node < n) c.in-Ok-read_moves.moves.items) count c.in-Ok-read_moves.ensures.known;
      };
      tail = c.in-Ok.ensures.fit;
    }

pub returns-in-Err-read_moves-clause-err : goal.returns-in-Err-read_moves-clause-err
returns-in-Err-read_moves-clause-err g c =
    let count : c.nodes-nodes.result ≡ c.in-Ok.begun.0.0.topo.nodes = c.nodes-nodes.ensures.value ∙ ap (λ (t : Topology). t.nodes) c.lawful_topo.ensures.value in
    let stops = subst (λ (n : ℕ). StopsAt (g.S.Store.held c.read_watch_on.new.store) (moves_plan n c.args.moves.now) (reads (g.S.Store.faults c.read_watch_on.new.store) (g.S.Store.failed c.read_watch_on.new.store)) (reads (g.S.Store.faults c.read_moves.new.store) (g.S.Store.failed c.read_moves.new.store)) (end_at c.in-Err-read_moves.trouble)) count c.in-Err-read_moves.ensures.read in
    let it = c.in-Ok.begun in
    next_stopped _ _ (watch_on_plan c.args.file.now c.args.from c.args.to c.args.places.now c.args.state.now) (λ it. moves_plan it.0.0.topo.nodes c.args.moves.now) ((it.0.0, it.0.1.places.items), it.1) _ _ _ _ _ c.in-Ok.ensures.ok c.in-Ok.ensures.held
    (end_at c.in-Err-read_moves.trouble) _ _ stops c.tell.ensures
