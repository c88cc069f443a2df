use Rattle.std.proofs.Common.{◌≡◌, ℕ, ◌+◌, ◌<◌, ◌≤◌, min, List, ◌++◌, refl, sym, ap, ◌∙◌, subst, arith}
use Rattle.world_core.specs.Kept.{epoch}
use Rattle.sim_io.specs.Outside.{Rose, TookFront, extended}
use Rattle.node_core.specs.declared.row.Row.{Row}
use Rattle.trace_writer.specs.Line.{rows_text}
use Rattle.checkpoint_text.specs.Onward.{SavedAt, onward}
use Rattle.fleet_flight.specs.Rows.{rows_upto}
use Rattle.node_runner.specs.Scenario.{ScenarioOf}
use Rattle.state_text.specs.Text.{StateOf}
use Rattle.command_plans.specs.Ends.{stream}
use Rattle.commands.proofs.Epochs.{from_begun, from_last, from_next, from_within, from_zero}
use Rattle.commands.proofs.Traces.{failed_upto, front_upto, rows_none, taken_none, taken_next}
use Rattle.commands.proofs.checkpoints.write_rows_to.Goals as goal

pub loop-saved-init : goal.loop-saved-init
loop-saved-init g c =
    let network : ScenarioOf = c.args.network.now in
    let state : StateOf = c.args.saved.state in
    let is = c.requires.fresh.is in
    let at : c.args.saved.floor ≡ state.cycle = ap (λ (a : SavedAt). a.floor) is in
    let none = ap (rows_upto (onward network state)) at ∙ rows_none (onward network state) c.requires.fresh.early in
    let begun : state.cycle ≤ c.args.end = from_begun network state.cycle c.args.end c.requires.fresh.early c.requires.end in
    record {
      same = ap (λ (a : SavedAt). a.scenario) is;
      state = refl;
      sound = ap (λ (a : SavedAt). a.failed) is;
      at = from_zero network state.cycle c.args.saved.floor at c.requires.fresh.early;
      within = omega (arith, at, begun);
      taken = taken_none _ (rows_upto (onward network state) c.args.saved.floor) none;
      count = refl;
    }

pub epoch-requires-clause-more : goal.epoch-requires-clause-more
epoch-requires-clause-more g c =
    let last : c.args.end ≤ c.args.network.now.topo.limit = from_last c.args.network.now c.args.saved.state.cycle c.args.end c.requires.end in
    let more : c.loop-saved.saved.floor < c.args.network.now.topo.limit = omega arith in
    subst (λ (s : ScenarioOf). c.loop-saved.saved.floor < s.topo.limit) (sym c.loop-saved.invariant.same) more

pub returns-in_default : goal.returns-in_default
returns-in_default g c =
    let network : ScenarioOf = c.args.network.now in
    let state : StateOf = c.args.saved.state in
    let last : c.args.end ≤ network.topo.limit = from_last network state.cycle c.args.end c.requires.end in
    let begun : state.cycle ≤ c.loop-saved.saved.floor = from_begun network state.cycle c.loop-saved.saved.floor c.requires.fresh.early c.loop-saved.invariant.at in
    (front_upto (onward network state) c.loop-saved.saved.floor c.args.end begun c.loop-saved.invariant.within last _ _ c.loop-saved.invariant.taken, c.loop-saved.invariant.count)

-- what an epoch more has told, by the state that the run began in
rows_told : (network : ScenarioOf) (state now : StateOf) (c d : ℕ) (rows : List Row) → now ≡ state → rows_upto (onward network now) d ≡ rows_upto (onward network now) c ++ rows
    → rows_upto (onward network state) d ≡ rows_upto (onward network state) c ++ rows
rows_told network state now c d rows e h = subst (λ (s : StateOf). rows_upto (onward network s) d ≡ rows_upto (onward network s) c ++ rows) e h

pub returns-in-Err : goal.returns-in-Err
returns-in-Err g c =
    let network : ScenarioOf = c.args.network.now in
    let state : StateOf = c.args.saved.state in
    let after : c.epoch.new.self.floor ≡ min (c.loop-saved.saved.floor + epoch) c.loop-saved.saved.scenario.topo.limit = ap (λ (a : SavedAt). a.floor) c.in-Ok.ensures.after in
    let end : c.epoch.new.self.floor ≡ min (c.loop-saved.saved.floor + epoch) network.topo.limit =
    subst (λ (s : ScenarioOf). c.epoch.new.self.floor ≡ min (c.loop-saved.saved.floor + epoch) s.topo.limit) c.loop-saved.invariant.same after in
    let within : c.epoch.new.self.floor ≤ c.args.end = from_within network state.cycle c.loop-saved.saved.floor c.epoch.new.self.floor c.args.end c.loop-saved.invariant.at c.requires.end (omega arith) end in
    let next = from_next network state.cycle c.loop-saved.saved.floor c.epoch.new.self.floor c.args.end c.loop-saved.invariant.at c.requires.end (omega arith) end in
    let begun : state.cycle ≤ c.epoch.new.self.floor = from_begun network state.cycle c.epoch.new.self.floor c.requires.fresh.early next in
    let last : c.args.end ≤ network.topo.limit = from_last network state.cycle c.args.end c.requires.end in
    let front : TookFront (g.O.Sink.taken c.loop-saved.out) (rows_text c.in-Ok.rows.items) (g.O.Sink.taken c.write.new.sink) =
    subst (λ (l : List Row). TookFront (g.O.Sink.taken c.loop-saved.out) (rows_text l) (g.O.Sink.taken c.write.new.sink)) c.as_slice.ensures.value c.in-Err.ensures.front in
    let rows = rows_told network state c.loop-saved.saved.state c.loop-saved.saved.floor c.epoch.new.self.floor c.in-Ok.rows.items c.loop-saved.invariant.state c.in-Ok.ensures.rows in
    record {
      front = failed_upto (onward network state) c.epoch.new.self.floor c.args.end begun within last _ _ _ _ c.in-Ok.rows.items c.loop-saved.invariant.taken rows front;
      rose = subst (λ (n : ℕ). Rose n (g.O.Sink.faults c.write.new.sink)) c.loop-saved.invariant.count c.in-Err.ensures.rose;
    }

pub loop-saved-preserved : goal.loop-saved-preserved
loop-saved-preserved g c =
    let network : ScenarioOf = c.args.network.now in
    let state : StateOf = c.args.saved.state in
    let after = c.in-Ok.ensures.after in
    let floor : c.epoch.new.self.floor ≡ min (c.loop-saved.saved.floor + epoch) c.loop-saved.saved.scenario.topo.limit = ap (λ (a : SavedAt). a.floor) after in
    let end : c.epoch.new.self.floor ≡ min (c.loop-saved.saved.floor + epoch) network.topo.limit =
    subst (λ (s : ScenarioOf). c.epoch.new.self.floor ≡ min (c.loop-saved.saved.floor + epoch) s.topo.limit) c.loop-saved.invariant.same floor in
    let rows = rows_told network state c.loop-saved.saved.state c.loop-saved.saved.floor c.epoch.new.self.floor c.in-Ok.rows.items c.loop-saved.invariant.state c.in-Ok.ensures.rows in
    let took : g.O.Sink.taken c.write.new.sink ≡ extended (g.O.Sink.taken c.loop-saved.out) (rows_text c.in-Ok.rows.items) =
    c.in-Ok-write.ensures.taken ∙ ap (λ (l : List Row). extended (g.O.Sink.taken c.loop-saved.out) (rows_text l)) c.as_slice.ensures.value in
    record {
      same = ap (λ (a : SavedAt). a.scenario) after ∙ c.loop-saved.invariant.same;
      state = ap (λ (a : SavedAt). a.state) after ∙ c.loop-saved.invariant.state;
      sound = ap (λ (a : SavedAt). a.failed) after ∙ c.loop-saved.invariant.sound;
      at = from_next network state.cycle c.loop-saved.saved.floor c.epoch.new.self.floor c.args.end c.loop-saved.invariant.at c.requires.end (omega arith) end;
      within = from_within network state.cycle c.loop-saved.saved.floor c.epoch.new.self.floor c.args.end c.loop-saved.invariant.at c.requires.end (omega arith) end;
      taken = taken_next _ _ _ _ c.in-Ok.rows.items _ c.loop-saved.invariant.taken rows took;
      count = c.in-Ok-write.ensures.ok ∙ c.loop-saved.invariant.count;
    }

pub returns : goal.returns
returns g c =
    let over : c.loop-saved.saved.floor ≡ c.args.end = omega arith in
    let taken = c.loop-saved.invariant.taken ∙ ap (λ (n : ℕ). extended (g.O.Sink.taken c.args.out.now) (rows_text (rows_upto (onward c.args.network.now c.args.saved.state) n))) over in
    λ i. stream (taken i) (c.loop-saved.invariant.count i)
