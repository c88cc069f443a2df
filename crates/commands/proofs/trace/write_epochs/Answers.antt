use Rattle.std.proofs.Common.{◌≡◌, ℕ, ◌+◌, ◌<◌, ◌≤◌, min, List, refl, sym, ap, ◌∙◌, subst, arith}
use Rattle.world_core.specs.Kept.{epoch}
use Rattle.sim_io.specs.Outside.{Rose, TookFront, extended}
use Rattle.node_core.specs.declared.row.Row.{Row}
use Rattle.trace_writer.specs.Line.{rows_text}
use Rattle.node_runner.specs.Scenario.{ScenarioOf, fleet_of}
use Rattle.node_runner.specs.Run.{RunAt}
use Rattle.fleet_flight.specs.Rows.{rows_upto}
use Rattle.command_plans.specs.Ends.{stream}
use Rattle.commands.proofs.Epochs.{epoch_last, epoch_next, epoch_within, epoch_zero}
use Rattle.commands.proofs.Traces.{front_upto, failed_upto, taken_first, taken_next}
use Rattle.commands.proofs.trace.write_epochs.Goals as goal

pub loop-run-init : goal.loop-run-init
loop-run-init g c =
    let e = c.requires.first in
    let zero : c.args.run.now.floor ≡ 0 = ap (λ (r : RunAt). r.floor) e in
    record {
      same = ap (λ (r : RunAt). r.scenario) e;
      sound = ap (λ (r : RunAt). r.failed) e;
      at = epoch_zero c.args.network.now c.args.run.now.floor zero;
      within = omega arith;
      taken = taken_first _ c.args.network.now c.args.run.now.floor c.requires.sound zero;
      count = refl;
    }

pub epoch-requires-clause-more : goal.epoch-requires-clause-more
epoch-requires-clause-more g c =
    let last : c.args.end ≤ c.args.network.now.topo.limit = epoch_last c.args.network.now c.args.end c.requires.end in
    let more : c.loop-run.run.floor < c.args.network.now.topo.limit = omega arith in
    subst (λ (s : ScenarioOf). c.loop-run.run.floor < s.topo.limit) (sym c.loop-run.invariant.same) more

pub returns-in_default : goal.returns-in_default
returns-in_default g c =
    let last : c.args.end ≤ c.args.network.now.topo.limit = epoch_last c.args.network.now c.args.end c.requires.end in
    (front_upto (fleet_of c.args.network.now) c.loop-run.run.floor c.args.end (omega arith) c.loop-run.invariant.within last _ _ c.loop-run.invariant.taken, c.loop-run.invariant.count)

pub returns-in-Err : goal.returns-in-Err
returns-in-Err g c =
    let network : ScenarioOf = c.args.network.now in
    let after : c.epoch.new.self.floor ≡ min (c.loop-run.run.floor + epoch) c.loop-run.run.scenario.topo.limit = ap (λ (r : RunAt). r.floor) c.in-Ok.ensures.after in
    let end : c.epoch.new.self.floor ≡ min (c.loop-run.run.floor + epoch) network.topo.limit =
    subst (λ (s : ScenarioOf). c.epoch.new.self.floor ≡ min (c.loop-run.run.floor + epoch) s.topo.limit) c.loop-run.invariant.same after in
    let within : c.epoch.new.self.floor ≤ c.args.end = epoch_within network c.loop-run.run.floor c.epoch.new.self.floor c.args.end c.loop-run.invariant.at c.requires.end (omega arith) end in
    let last : c.args.end ≤ network.topo.limit = epoch_last network c.args.end c.requires.end in
    let front : TookFront (g.O.Sink.taken c.loop-run.out) (rows_text c.in-Ok.rows.items) (g.O.Sink.taken c.write.new.sink) =
    subst (λ (l : List Row). TookFront (g.O.Sink.taken c.loop-run.out) (rows_text l) (g.O.Sink.taken c.write.new.sink)) c.as_slice.ensures.value c.in-Err.ensures.front in
    record {
      front = failed_upto (fleet_of network) c.epoch.new.self.floor c.args.end (omega arith) within last _ _ _ _ c.in-Ok.rows.items c.loop-run.invariant.taken c.in-Ok.ensures.rows front;
      rose = subst (λ (n : ℕ). Rose n (g.O.Sink.faults c.write.new.sink)) c.loop-run.invariant.count c.in-Err.ensures.rose;
    }

pub loop-run-preserved : goal.loop-run-preserved
loop-run-preserved g c =
    let network : ScenarioOf = c.args.network.now in
    let after = c.in-Ok.ensures.after in
    let floor : c.epoch.new.self.floor ≡ min (c.loop-run.run.floor + epoch) c.loop-run.run.scenario.topo.limit = ap (λ (r : RunAt). r.floor) after in
    let end : c.epoch.new.self.floor ≡ min (c.loop-run.run.floor + epoch) network.topo.limit =
    subst (λ (s : ScenarioOf). c.epoch.new.self.floor ≡ min (c.loop-run.run.floor + epoch) s.topo.limit) c.loop-run.invariant.same floor in
    let took : g.O.Sink.taken c.write.new.sink ≡ extended (g.O.Sink.taken c.loop-run.out) (rows_text c.in-Ok.rows.items) =
    c.in-Ok-write.ensures.taken ∙ ap (λ (l : List Row). extended (g.O.Sink.taken c.loop-run.out) (rows_text l)) c.as_slice.ensures.value in
    record {
      same = ap (λ (r : RunAt). r.scenario) after ∙ c.loop-run.invariant.same;
      sound = ap (λ (r : RunAt). r.failed) after ∙ c.loop-run.invariant.sound;
      at = epoch_next network c.loop-run.run.floor c.epoch.new.self.floor c.args.end c.loop-run.invariant.at c.requires.end (omega arith) end;
      within = epoch_within network c.loop-run.run.floor c.epoch.new.self.floor c.args.end c.loop-run.invariant.at c.requires.end (omega arith) end;
      taken = taken_next _ _ _ _ c.in-Ok.rows.items _ c.loop-run.invariant.taken c.in-Ok.ensures.rows took;
      count = c.in-Ok-write.ensures.ok ∙ c.loop-run.invariant.count;
    }

pub returns : goal.returns
returns g c =
    let over : c.loop-run.run.floor ≡ c.args.end = omega arith in
    let taken = c.loop-run.invariant.taken ∙ ap (λ (n : ℕ). extended (g.O.Sink.taken c.args.out.now) (rows_text (rows_upto (fleet_of c.args.network.now) n))) over in
    λ i. stream (taken i) (c.loop-run.invariant.count i)
