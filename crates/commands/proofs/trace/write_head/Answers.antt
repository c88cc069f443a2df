use Rattle.std.proofs.Common.{◌≢◌, ◌*◌, ◌<◌, List, refl, subst, arith}
use Rattle.world_core.specs.Kept.{epoch}
use Rattle.node_core.specs.declared.row.Row.{Row}
use Rattle.trace_writer.specs.Line.{rows_text}
use Rattle.node_runner.specs.Scenario.{fleet_of}
use Rattle.command_plans.specs.Parts.{Written}
use Rattle.command_plans.specs.Ends.{stream}
use Rattle.commands.proofs.Epochs.{epoch_below}
use Rattle.commands.proofs.Traces.{rows_early}
use Rattle.commands.proofs.trace.write_head.Goals as goal

pub returns-in-Ok : goal.returns-in-Ok
returns-in-Ok g c =
    let below : c.args.epochs * epoch ≢ c.args.network.now.topo.limit = λ e. absurd (let h : c.args.epochs * epoch < c.args.network.now.topo.limit = c.requires in omega arith) in
    subst (λ (l : List Row). Written (rows_text l) (stream (g.O.Sink.taken c.args.out.now) (g.O.Sink.faults c.args.out.now)) (stream (g.O.Sink.taken c.write_epochs.new.out) (g.O.Sink.faults c.write_epochs.new.out)) c.write_epochs.result)
    (rows_early (fleet_of c.args.network.now) (c.args.epochs * epoch) below) c.write_epochs.ensures

pub write_epochs-requires-clause-end : goal.write_epochs-requires-clause-end
write_epochs-requires-clause-end g c = epoch_below c.args.network.now c.args.epochs (c.args.epochs * epoch) c.requires refl
