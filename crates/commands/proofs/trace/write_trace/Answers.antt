use Rattle.std.proofs.Common.{List, ap, ◌∙◌, subst}
use Rattle.node_core.specs.declared.row.Row.{Row}
use Rattle.trace_writer.specs.Line.{rows_text}
use Rattle.world_core.specs.Topology.{Topology}
use Rattle.node_runner.specs.Scenario.{fleet_of}
use Rattle.run_reports.proofs.Runs.{rows_whole}
use Rattle.command_plans.specs.Parts.{Written}
use Rattle.command_plans.specs.Ends.{stream}
use Rattle.commands.proofs.Epochs.{epoch_limit}
use Rattle.commands.proofs.trace.write_trace.Goals as goal

pub write_epochs-requires-clause-end : goal.write_epochs-requires-clause-end
write_epochs-requires-clause-end g c =
    epoch_limit c.args.network.now c.limit.result (c.limit.ensures.value ∙ ap (λ (t : Topology). t.limit) c.lawful_topo.ensures.value)

pub returns-in-Ok : goal.returns-in-Ok
returns-in-Ok g c =
    let limit = c.limit.ensures.value ∙ ap (λ (t : Topology). t.limit) c.lawful_topo.ensures.value in
    subst (λ (l : List Row). Written (rows_text l) (stream (g.O.Sink.taken c.args.out.now) (g.O.Sink.faults c.args.out.now)) (stream (g.O.Sink.taken c.write_epochs.new.out) (g.O.Sink.faults c.write_epochs.new.out)) c.write_epochs.result)
    (rows_whole (fleet_of c.args.network.now) c.limit.result limit) c.write_epochs.ensures
