use Rattle.std.proofs.Common.{◌≡◌, ℕ, ◌+◌, ◌≤◌, min, List, refl, ap, ◌∙◌, subst, arith}
use Rattle.world_core.specs.Kept.{epoch}
use Rattle.sim_io.specs.Outside.{Rose, TookFront, extended}
use Rattle.node_core.specs.declared.row.Row.{Row}
use Rattle.trace_writer.specs.Line.{rows_text}
use Rattle.node_runner.specs.Scenario.{ScenarioOf, fleet_of}
use Rattle.node_runner.specs.Run.{RunAt}
use Rattle.command_plans.specs.Ends.{stream}
use Rattle.run_reports.proofs.Runs.{over_at, rows_whole}
use Rattle.commands.proofs.Traces.{front_taken, front_failed, taken_first, taken_next}
use Rattle.commands.proofs.threads.write_trace.Goals as goal

pub loop-run-init : goal.loop-run-init
loop-run-init g c =
    let e = c.in-Ok.ensures.run in
    record {
      same = ap (λ (r : RunAt). r.scenario) e;
      sound = ap (λ (r : RunAt). r.failed) e;
      taken = taken_first _ c.args.network.now _ c.in-Ok.ensures.sound (ap (λ (r : RunAt). r.floor) e);
      count = refl;
    }

pub returns-in_default-epoch : goal.returns-in_default-epoch
returns-in_default-epoch g c =
    let within : c.loop-run.run.floor ≤ c.args.network.now.topo.limit =
    subst (λ (s : ScenarioOf). c.loop-run.run.floor ≤ s.topo.limit) c.loop-run.invariant.same c.loop-run-test.ensures.within in
    (front_taken (fleet_of c.args.network.now) c.loop-run.run.floor (omega arith) within _ _ c.loop-run.invariant.taken, c.loop-run.invariant.count)

pub returns-in-Err : goal.returns-in-Err
returns-in-Err g c =
    let end : c.epoch.new.self.floor ≡ min (c.loop-run.run.floor + epoch) c.loop-run.run.scenario.topo.limit = ap (λ (r : RunAt). r.floor) c.in-Ok-epoch.ensures.after in
    let most : c.epoch.new.self.floor ≤ c.loop-run.run.scenario.topo.limit = omega arith in
    let within : c.epoch.new.self.floor ≤ c.args.network.now.topo.limit = subst (λ (s : ScenarioOf). c.epoch.new.self.floor ≤ s.topo.limit) c.loop-run.invariant.same most in
    let front : TookFront (g.O.Sink.taken c.loop-run.out) (rows_text c.in-Ok-epoch.rows.items) (g.O.Sink.taken c.write.new.sink) =
    subst (λ (l : List Row). TookFront (g.O.Sink.taken c.loop-run.out) (rows_text l) (g.O.Sink.taken c.write.new.sink)) c.as_slice.ensures.value c.in-Err.ensures.front in
    record {
      front = front_failed (fleet_of c.args.network.now) c.epoch.new.self.floor (omega arith) within _ _ _ _ c.in-Ok-epoch.rows.items c.loop-run.invariant.taken c.in-Ok-epoch.ensures.rows front;
      rose = subst (λ (n : ℕ). Rose n (g.O.Sink.faults c.write.new.sink)) c.loop-run.invariant.count c.in-Err.ensures.rose;
    }

pub loop-run-preserved : goal.loop-run-preserved
loop-run-preserved g c =
    let after = c.in-Ok-epoch.ensures.after in
    let took : g.O.Sink.taken c.write.new.sink ≡ extended (g.O.Sink.taken c.loop-run.out) (rows_text c.in-Ok-epoch.rows.items) =
    c.in-Ok-write.ensures.taken ∙ ap (λ (l : List Row). extended (g.O.Sink.taken c.loop-run.out) (rows_text l)) c.as_slice.ensures.value in
    record {
      same = ap (λ (r : RunAt). r.scenario) after ∙ c.loop-run.invariant.same;
      sound = ap (λ (r : RunAt). r.failed) after ∙ c.loop-run.invariant.sound;
      taken = taken_next _ _ _ _ c.in-Ok-epoch.rows.items _ c.loop-run.invariant.taken c.in-Ok-epoch.ensures.rows took;
      count = c.in-Ok-write.ensures.ok ∙ c.loop-run.invariant.count;
    }

pub returns : goal.returns
returns g c =
    let over : c.loop-run.run.floor ≡ c.loop-run.run.scenario.topo.limit = over_at _ _ c.loop-run-test.ensures.value in
    let limit : c.loop-run.run.floor ≡ c.args.network.now.topo.limit = over ∙ ap (λ (s : ScenarioOf). s.topo.limit) c.loop-run.invariant.same in
    let taken = c.loop-run.invariant.taken ∙ ap (λ (l : List Row). extended (g.O.Sink.taken c.args.out.now) (rows_text l)) (rows_whole (fleet_of c.args.network.now) c.loop-run.run.floor limit) in
    λ i. stream (taken i) (c.loop-run.invariant.count i)
