use Rattle.std.proofs.Common.{◌≤◌, ◌-◌, refl, sym, subst, ◌∙◌}
use Rattle.scenario_file.specs.Shown.{parts}
use Rattle.node_runner.specs.Scenario.{ScenarioOf}
use Rattle.command_plans.specs.Plan.{Give, images_plan, scenario_plan}
use Rattle.command_plans.specs.Reading.{Reached}
use Rattle.command_plans.specs.Ends.{reads}
use Rattle.command_plans.specs.Parts.{StopsAt, end_at}
use Rattle.commands.proofs.Networks.{stops_at_scenario, stops_at_image, network_reached}
use Rattle.commands.proofs.reading.read_network.Goals as goal

pub returns-in-Err-clause-err : goal.returns-in-Err-clause-err
returns-in-Err-clause-err g c = record {
  end = end_at c.in-Err.trouble;
  stops = stops_at_scenario _ (g.S.Store.held c.read_scenario.new.store) (scenario_plan c.args.file.now) _ _ (end_at c.in-Err.trouble) c.in-Err.ensures.read;
  told = c.tell.ensures;
}

pub returns-in-Err-read_images-clause-err : goal.returns-in-Err-read_images-clause-err
returns-in-Err-read_images-clause-err g c =
    let stops : StopsAt (g.S.Store.held c.read_scenario.new.store) (images_plan c.in-Ok.text.images.items)
    (reads (g.S.Store.faults c.read_scenario.new.store) (g.S.Store.failed c.read_scenario.new.store))
    (reads (g.S.Store.faults c.read_images.new.store) (g.S.Store.failed c.read_images.new.store)) (end_at c.in-Err-read_images.trouble) =
    rw (← c.as_slice.ensures.value) c.in-Err-read_images.ensures.read in
    record {
      end = end_at c.in-Err-read_images.trouble;
      stops = stops_at_image _ _ (scenario_plan c.args.file.now) (parts c.in-Ok.text) _ _ _ (end_at c.in-Err-read_images.trouble) c.in-Ok.ensures.held c.in-Ok.ensures.read.0 c.in-Ok.ensures.read.1 stops;
      told = c.tell-in-Err-read_images.ensures;
    }

pub returns-in-Ok-read_images-clause-ok : goal.returns-in-Ok-read_images-clause-ok
returns-in-Ok-read_images-clause-ok g c =
    let more : Reached (g.S.Store.held c.read_scenario.new.store) (images_plan c.in-Ok.text.images.items) (Give c.in-Ok-read_images.images.items) =
    rw (← c.as_slice.ensures.value) c.in-Ok-read_images.ensures.read.1 in
    record {
      reached = network_reached _ _ (scenario_plan c.args.file.now) (parts c.in-Ok.text) c.in-Ok-read_images.images.items _ c.in-Ok.ensures.held c.in-Ok.ensures.read.1 more c.new.ensures;
      same = c.in-Ok-read_images.ensures.read.0 ∙ c.in-Ok.ensures.read.0;
      silent = refl;
      within = subst (λ (n : ScenarioOf). n.to ≤ n.topo.limit) (sym c.new.ensures) c.in-Ok.ensures.lawful.within;
    }
