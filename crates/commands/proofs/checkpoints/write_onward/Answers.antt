use Rattle.std.proofs.Common.{List, ap, ◌∙◌, subst}
use Rattle.node_core.specs.declared.row.Row.{Row}
use Rattle.trace_writer.specs.Line.{rows_text}
use Rattle.world_core.specs.Topology.{Topology}
use Rattle.checkpoint_text.specs.Onward.{onward}
use Rattle.run_reports.proofs.Runs.{rows_whole}
use Rattle.command_plans.specs.Parts.{Written}
use Rattle.command_plans.specs.Ends.{stream}
use Rattle.commands.proofs.Epochs.{from_limit}
use Rattle.commands.proofs.checkpoints.write_onward.Goals as goal

pub write_rows_to-requires-clause-end : goal.write_rows_to-requires-clause-end
write_rows_to-requires-clause-end g c =
    from_limit c.args.network.now c.args.saved.state.cycle c.limit.result (c.limit.ensures.value ∙ ap (λ (t : Topology). t.limit) c.lawful_topo.ensures.value)

pub returns : goal.returns
returns g c =
    let limit = c.limit.ensures.value ∙ ap (λ (t : Topology). t.limit) c.lawful_topo.ensures.value in
    subst (λ (l : List Row). Written (rows_text l) (stream (g.O.Sink.taken c.args.out.now) (g.O.Sink.faults c.args.out.now)) (stream (g.O.Sink.taken c.write_rows_to.new.out) (g.O.Sink.faults c.write_rows_to.new.out)) c.write_rows_to.result)
    (rows_whole (onward c.args.network.now c.args.saved.state) c.limit.result limit) c.write_rows_to.ensures
