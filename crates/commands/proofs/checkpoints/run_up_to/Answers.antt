use Rattle.std.proofs.Common.{◌≡◌, ◌+◌, min, ap, ◌∙◌, arith}
use Rattle.world_core.specs.Kept.{epoch}
use Rattle.node_runner.specs.Scenario.{ScenarioOf}
use Rattle.node_runner.specs.Run.{RunAt}
use Rattle.commands.proofs.checkpoints.run_up_to.Goals as goal

pub loop-run-init : goal.loop-run-init
loop-run-init c =
    let e = c.requires.first in
    let zero : c.args.run.now.floor ≡ 0 = ap (λ (r : RunAt). r.floor) e in
    record {
      same = ap (λ (r : RunAt). r.scenario) e;
      sound = ap (λ (r : RunAt). r.failed) e;
      within = omega arith;
    }

pub pass-requires-clause-within : goal.pass-requires-clause-within
pass-requires-clause-within c =
    let to = c.requires.to in
    let same = ap (λ (s : ScenarioOf). s.topo.limit) c.loop-run.invariant.same in
    omega (arith, to, same)

pub loop-run-preserved : goal.loop-run-preserved
loop-run-preserved c =
    let after = c.in_ok-pass.ensures.after in
    let floor : c.pass.new.self.floor ≡ min (c.loop-run.run.floor + epoch) c.args.end = ap (λ (r : RunAt). r.floor) after in
    record {
      same = ap (λ (r : RunAt). r.scenario) after ∙ c.loop-run.invariant.same;
      sound = ap (λ (r : RunAt). r.failed) after ∙ c.loop-run.invariant.sound;
      within = omega (arith, floor);
    }

pub returns : goal.returns
returns c =
    let over : c.loop-run.run.floor ≡ c.args.end = omega arith in
    λ i. record { scenario = c.loop-run.invariant.same i; floor = over i; failed = c.loop-run.invariant.sound i }
