use Rattle.std.proofs.Common.{ℕ, List, ap, ◌∙◌}
use Rattle.node_core.specs.declared.row.Row.{Row}
use Rattle.node_runner.specs.Scenario.{ScenarioOf, fleet_of}
use Rattle.node_runner.specs.Run.{RunAt}
use Rattle.fleet_flight.specs.Rows.{rows_upto}
use Rattle.run_reports.specs.Frames.{sends_told}
use Rattle.run_reports.proofs.Feeding.{fed_first, fed_next, fed_whole}
use Rattle.run_reports.proofs.Runs.{over_at}
use Rattle.commands.proofs.frames.feed_run.Goals as goal

pub loop-alloc-init : goal.loop-alloc-init
loop-alloc-init c =
    let e = c.requires.first in
    record {
      same = ap (λ (r : RunAt). r.scenario) e;
      sound = ap (λ (r : RunAt). r.failed) e;
      all = fed_first c.args.network.now c.args.run.now.floor c.args.all.now.items c.requires.sound (ap (λ (r : RunAt). r.floor) e) c.requires.unfed;
    }

pub loop-alloc-preserved : goal.loop-alloc-preserved
loop-alloc-preserved c =
    let after = c.in_ok-rows.ensures.after in
    let sc = c.args.network.now in
    let upto : ℕ → List Row = rows_upto (fleet_of sc) in
    record {
      same = ap (λ (r : RunAt). r.scenario) after ∙ c.loop-alloc.invariant.same;
      sound = ap (λ (r : RunAt). r.failed) after ∙ c.loop-alloc.invariant.sound;
      all = fed_next sc.topo.nodes (upto c.loop-alloc.run.floor) c.in_ok-rows.rows.items (upto c.epoch.new.self.floor) _ _ _ c.in_ok-rows.ensures.rows
          (ap sends_told c.as_slice.ensures.value) c.loop-alloc.invariant.all c.in_ok-feed_rows.ensures;
    }

pub returns : goal.returns
returns c =
    let limit = ap (λ (s : ScenarioOf). s.topo.limit) c.loop-alloc.invariant.same in
    fed_whole c.args.network.now c.loop-alloc.run.floor c.loop-alloc.all.items (over_at c.loop-alloc.run.floor c.loop-alloc.run.scenario.topo.limit c.loop-alloc-test.ensures.value ∙ limit) c.loop-alloc.invariant.all
