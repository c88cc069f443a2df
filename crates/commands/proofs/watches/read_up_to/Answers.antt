use Rattle.std.proofs.Common.{◌≡◌, ◌<◌, ◌≤◌, refl, sym, subst, ◌∙◌, arith}
use Rattle.scenario_file.specs.Shown.{parts}
use Rattle.scenario_file.specs.declared.fault.ScenarioFault.TheVariants.{OutOfRange}
use Rattle.node_runner.specs.Scenario.{ScenarioOf}
use Rattle.command_plans.specs.declared.trouble.ScenarioCause.TheVariants.{Faulty}
use Rattle.command_plans.specs.Plan.{Give, BadScenario, and_then, images_plan, scenario_plan}
use Rattle.command_plans.specs.Reading.{Reached}
use Rattle.command_plans.specs.Ends.{Refused, reads}
use Rattle.command_plans.specs.Parts.{StopsAt, end_at}
use Rattle.command_plans.proofs.Steps.{stops_behind}
use Rattle.commands.specs.Plan.{up_to_or}
use Rattle.commands.proofs.Networks.{stops_at_scenario, stops_at_image, network_reached, up_to_reached, up_to_refused}
use Rattle.commands.proofs.watches.read_up_to.Goals as goal

pub returns-in-Err-clause-err : goal.returns-in-Err-clause-err
returns-in-Err-clause-err g c = record {
  end = end_at c.in-Err.trouble;
  stops = stops_at_scenario _ (g.S.Store.held c.read_scenario.new.store) (and_then (scenario_plan c.args.file.now) (up_to_or c.args.file.now c.args.to)) _ _ (end_at c.in-Err.trouble)
      (stops_behind _ (scenario_plan c.args.file.now) (up_to_or c.args.file.now c.args.to) _ _ (end_at c.in-Err.trouble) c.in-Err.ensures.read);
  told = c.tell.ensures;
}

pub returns-in-Err-read_images-clause-err : goal.returns-in-Err-read_images-clause-err
returns-in-Err-read_images-clause-err g c =
    let most : c.args.to ≤ c.limit.result = c.if-limit-to.false in
    let limit : c.limit.result ≡ c.in-Ok.text.topo.limit = c.limit.ensures.value in
    let stops : StopsAt (g.S.Store.held c.read_scenario.new.store) (images_plan c.in-Ok.text.images.items)
    (reads (g.S.Store.faults c.read_scenario.new.store) (g.S.Store.failed c.read_scenario.new.store))
    (reads (g.S.Store.faults c.read_images.new.store) (g.S.Store.failed c.read_images.new.store)) (end_at c.in-Err-read_images.trouble) =
    rw (← c.as_slice.ensures.value) c.in-Err-read_images.ensures.read in
    record {
      end = end_at c.in-Err-read_images.trouble;
      stops = stops_at_image _ _ (and_then (scenario_plan c.args.file.now) (up_to_or c.args.file.now c.args.to)) (parts c.in-Ok.text) _ _ _
          (end_at c.in-Err-read_images.trouble) c.in-Ok.ensures.held c.in-Ok.ensures.read.0
          (up_to_reached _ c.args.file.now c.args.to (parts c.in-Ok.text) c.in-Ok.ensures.read.1 (omega arith)) stops;
      told = c.tell-in-Err-read_images.ensures;
    }

-- the cycles end behind the run
pub returns-then-limit-to-clause-err : goal.returns-then-limit-to-clause-err
returns-then-limit-to-clause-err g c =
    let past : c.limit.result < c.args.to = c.if-limit-to.true in
    let limit : c.limit.result ≡ c.in-Ok.text.topo.limit = c.limit.ensures.value in
    record {
      end = Refused (BadScenario c.args.file.now (Faulty OutOfRange));
      stops = (c.in-Ok.ensures.read.0, up_to_refused _ c.args.file.now c.args.to (parts c.in-Ok.text) c.in-Ok.ensures.read.1 (omega arith));
      told = c.tell-then-limit-to.ensures;
    }

pub returns-in-Ok-read_images-clause-ok : goal.returns-in-Ok-read_images-clause-ok
returns-in-Ok-read_images-clause-ok g c =
    let most : c.args.to ≤ c.limit.result = c.if-limit-to.false in
    let limit : c.limit.result ≡ c.in-Ok.text.topo.limit = c.limit.ensures.value in
    let in_run : c.args.to ≤ c.in-Ok.text.topo.limit = omega arith in
    let more : Reached (g.S.Store.held c.read_scenario.new.store) (images_plan c.in-Ok.text.images.items) (Give c.in-Ok-read_images.images.items) =
    rw (← c.as_slice.ensures.value) c.in-Ok-read_images.ensures.read.1 in
    record {
      reached = network_reached _ _ (and_then (scenario_plan c.args.file.now) (up_to_or c.args.file.now c.args.to)) (parts c.in-Ok.text)
          c.in-Ok-read_images.images.items _ c.in-Ok.ensures.held (up_to_reached _ c.args.file.now c.args.to (parts c.in-Ok.text) c.in-Ok.ensures.read.1 in_run) more c.new.ensures;
      same = c.in-Ok-read_images.ensures.read.0 ∙ c.in-Ok.ensures.read.0;
      silent = refl;
    }

pub returns-in-Ok-read_images-clause-within : goal.returns-in-Ok-read_images-clause-within
returns-in-Ok-read_images-clause-within g c =
    let most : c.args.to ≤ c.limit.result = c.if-limit-to.false in
    let limit : c.limit.result ≡ c.in-Ok.text.topo.limit = c.limit.ensures.value in
    let in_run : c.args.to ≤ c.in-Ok.text.topo.limit = omega arith in
    subst (λ (n : ScenarioOf). c.args.to ≤ n.topo.limit) (sym c.new.ensures) in_run
