use Rattle.std.proofs.Common.{sym, ap, ◌∙◌, arith}
use Rattle.fleet_flight.specs.Rows.{rows_upto}
use Rattle.fleet_flight.proofs.Epoch.{first_rows}
use Rattle.node_runner.specs.Scenario.{fleet_of}
use Rattle.node_runner.specs.Run.{RunAt}
use Rattle.fleet_plain.proofs.plain.run_plain.Goals as goal

pub loop-rows-init : goal.loop-rows-init
loop-rows-init c =
    let e = c.in_ok-run.ensures.run in
    record {
      same = ap (λ (r : RunAt). r.scenario) e;
      sound = ap (λ (r : RunAt). r.failed) e;
      rows = c.new-rows.ensures.items ∙ sym (first_rows (fleet_of c.args.scenario.now) (let x = c.in_ok-run.ensures.sound.topo.ranges.limit_from in omega arith))
          ∙ ap (λ (r : RunAt). rows_upto (fleet_of c.args.scenario.now) r.floor) (sym e);
    }
