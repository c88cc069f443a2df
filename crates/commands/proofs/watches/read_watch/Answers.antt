use Rattle.std.proofs.Common.{◌≡◌, ℕ, ap, ◌∙◌, subst}
use Rattle.std.specs.List.{All}
use Rattle.world_core.specs.Topology.{Topology}
use Rattle.places_text.specs.Known.{IsKnown}
use Rattle.command_plans.specs.Ends.{reads}
use Rattle.command_plans.specs.Plan.{Give, places_plan}
use Rattle.command_plans.specs.Parts.{StopsAt, end_at}
use Rattle.command_plans.specs.Reading.{Reached}
use Rattle.command_plans.proofs.Steps.{stopped_behind}
use Rattle.commands.specs.Plan.{up_to_plan}
use Rattle.commands.proofs.SweepRuns.{both_got, next_stopped}
use Rattle.commands.proofs.Placed.{spots_are}
use Rattle.commands.proofs.watches.read_watch.Goals as goal

pub returns-in-Err-clause-err : goal.returns-in-Err-clause-err
returns-in-Err-clause-err g c = stopped_behind _ (up_to_plan c.args.file.now c.args.to) _ _ _ _ _ _ c.in-Err.ensures.err

pub returns-in-Ok-read_places-clause-ok : goal.returns-in-Ok-read_places-clause-ok
returns-in-Ok-read_places-clause-ok g c =
    let count : c.nodes-nodes.result ≡ c.in-Ok.network.topo.nodes = c.nodes-nodes.ensures.value ∙ ap (λ (t : Topology). t.nodes) c.lawful_topo.ensures.value in
    let read = c.in-Ok-read_places.ensures.read in
    both_got _ _ (up_to_plan c.args.file.now c.args.to) (λ network. places_plan network.topo.nodes c.args.places.now) c.in-Ok.network _ _ _ _ _ c.in-Ok.ensures.ok c.in-Ok.ensures.held c.in-Ok-read_places.places.items
    (read.0, subst (λ (n : ℕ). Reached (g.S.Store.held c.read_up_to.new.store) (places_plan n c.args.places.now) (Give c.in-Ok-read_places.places.items)) count read.1)

pub returns-in-Ok-read_places-clause-fit : goal.returns-in-Ok-read_places-clause-fit
returns-in-Ok-read_places-clause-fit g c = record {
  rises = c.requires.rises;
  within = c.in-Ok.ensures.within;
  spots = spots_are c.nodes-nodes.result c.in-Ok-read_places.places.items c.in-Ok-read_places.ensures.known;
}

pub returns-in-Err-read_places-clause-err : goal.returns-in-Err-read_places-clause-err
returns-in-Err-read_places-clause-err g c =
    let count : c.nodes-nodes.result ≡ c.in-Ok.network.topo.nodes = c.nodes-nodes.ensures.value ∙ ap (λ (t : Topology). t.nodes) c.lawful_topo.ensures.value in
    let stops = subst (λ (n : ℕ). StopsAt (g.S.Store.held c.read_up_to.new.store) (places_plan n c.args.places.now) (reads (g.S.Store.faults c.read_up_to.new.store) (g.S.Store.failed c.read_up_to.new.store)) (reads (g.S.Store.faults c.read_places.new.store) (g.S.Store.failed c.read_places.new.store)) (end_at c.in-Err-read_places.trouble)) count c.in-Err-read_places.ensures.read in
    next_stopped _ _ (up_to_plan c.args.file.now c.args.to) (λ network. places_plan network.topo.nodes c.args.places.now) c.in-Ok.network _ _ _ _ _ c.in-Ok.ensures.ok c.in-Ok.ensures.held
    (end_at c.in-Err-read_places.trouble) _ _ stops c.tell.ensures
