use Rattle.std.proofs.Common.{◌≡◌, ◌+◌, ◌++◌, ℕ, List, ap, sym, ◌∙◌, arith}
use Rattle.node_core.specs.declared.row.Row.{Row}
use Rattle.node_runner.specs.Scenario.{fleet_of}
use Rattle.node_runner.specs.Run.{RunAt}
use Rattle.fleet_flight.specs.Rows.{rows_upto}
use Rattle.run_reports.specs.Profiles.{window_of}
use Rattle.run_reports.specs.Tallies.{tallies}
use Rattle.run_reports.proofs.Runs.{tallies_first, tallies_whole}
use Rattle.commands.proofs.profiles.tally_run.Goals as goal

pub loop-run-init : goal.loop-run-init
loop-run-init c =
    let e = c.requires.first in
    let floor : c.args.run.now.floor ≡ 0 = ap (λ (r : RunAt). r.floor) e in
    record {
      same = ap (λ (r : RunAt). r.scenario) e;
      sound = ap (λ (r : RunAt). r.failed) e;
      within = omega arith;
      all = tallies_first c.args.network.now c.requires.sound c.args.run.now.floor c.args.all.now.items floor c.requires.untaken;
    }

pub loop-run-preserved : goal.loop-run-preserved
loop-run-preserved c =
    let after = c.in_ok-rows.ensures.after in
    let sc = c.args.network.now in
    let floor : c.up_to.new.self.floor ≡ c.min-next.result = ap (λ (r : RunAt). r.floor) after in
    let next = c.min-next.ensures in
    let upto : ℕ → List Row = rows_upto (fleet_of sc) in
    record {
      same = ap (λ (r : RunAt). r.scenario) after ∙ c.loop-run.invariant.same;
      sound = ap (λ (r : RunAt). r.failed) after ∙ c.loop-run.invariant.sound;
      within = omega arith;
      all = c.in_ok-tally_rows.ensures sc.topo.nodes (window_of sc) (upto c.loop-run.run.floor) c.loop-run.invariant.all
          ∙ ap (tallies sc.topo.nodes (window_of sc)) (ap (λ (l : List Row). upto c.loop-run.run.floor ++ l) c.as_slice.ensures.value ∙ sym c.in_ok-rows.ensures.rows ∙ ap upto (sym floor));
    }

pub returns-clause-taken : goal.returns-clause-taken
returns-clause-taken c =
    let sc = c.args.network.now in
    let over = c.loop-run-test.false in
    let to = c.window-end.ensures.to in
    let within = c.loop-run.invariant.within in
    let limit = c.requires.within in
    tallies_whole sc c.requires.sound c.window-end.result c.loop-run.run.floor c.loop-run.all.items c.window-end.ensures.from c.window-end.ensures.to (omega arith) (omega arith) c.loop-run.invariant.all
