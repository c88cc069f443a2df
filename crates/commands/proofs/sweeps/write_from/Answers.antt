use Rattle.std.proofs.Common.{◌≡◌, ap, subst}
use Rattle.checkpoint_text.specs.Onward.{SavedAt, onward}
use Rattle.state_text.specs.Text.{StateOf}
use Rattle.trace_writer.specs.Line.{rows_text}
use Rattle.world_core.specs.Order.{run_rows}
use Rattle.command_plans.specs.Ends.{stream}
use Rattle.command_plans.specs.Parts.{Written}
use Rattle.commands.proofs.SweepRuns.{fresh_saved}
use Rattle.commands.proofs.sweeps.write_from.Goals as goal

pub write_onward-requires : goal.write_onward-requires
write_onward-requires g c = fresh_saved c.args.network.now c.args.state.now c.in-Ok.saved c.in-Ok.ensures c.requires

pub returns-in-Ok : goal.returns-in-Ok
returns-in-Ok g c =
    let state : c.in-Ok.saved.state ≡ c.args.state.now = ap (λ (a : SavedAt). a.state) c.in-Ok.ensures in
    subst (λ (s : StateOf). Written (rows_text (run_rows (onward c.args.network.now s))) (stream (g.O.Sink.taken c.args.out.now) (g.O.Sink.faults c.args.out.now)) (stream (g.O.Sink.taken c.write_onward.new.out) (g.O.Sink.faults c.write_onward.new.out)) c.write_onward.result)
    state c.write_onward.ensures
