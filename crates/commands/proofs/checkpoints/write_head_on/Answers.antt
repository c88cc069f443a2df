use Rattle.std.proofs.Common.{◌≡◌, ◌≢◌, ◌+◌, ◌*◌, ◌<◌, ℕ, List, ap, ◌∙◌, subst, arith}
use Rattle.world_core.specs.Kept.{epoch}
use Rattle.node_core.specs.declared.row.Row.{Row}
use Rattle.trace_writer.specs.Line.{rows_text}
use Rattle.checkpoint_text.specs.Onward.{SavedAt, onward}
use Rattle.fleet_flight.specs.Rows.{rows_upto}
use Rattle.command_plans.specs.Parts.{Written}
use Rattle.command_plans.specs.Ends.{stream}
use Rattle.commands.proofs.Epochs.{from_below}
use Rattle.commands.proofs.Traces.{rows_early}
use Rattle.commands.proofs.checkpoints.write_head_on.Goals as goal

pub write_rows_to-requires-clause-end : goal.write_rows_to-requires-clause-end
write_rows_to-requires-clause-end g c =
    let start : ℕ = c.args.saved.state.cycle in
    let at : c.cycle.result ≡ start = c.cycle.ensures ∙ ap (λ (a : SavedAt). a.floor) c.requires.fresh.is in
    from_below c.args.network.now start c.args.epochs (c.cycle.result + c.args.epochs * epoch) c.requires.within (ap (λ (n : ℕ). n + c.args.epochs * epoch) at)

pub returns : goal.returns
returns g c =
    let start : ℕ = c.args.saved.state.cycle in
    let f = onward c.args.network.now c.args.saved.state in
    let at : c.cycle.result ≡ start = c.cycle.ensures ∙ ap (λ (a : SavedAt). a.floor) c.requires.fresh.is in
    let within : start + c.args.epochs * epoch < c.args.network.now.topo.limit = c.requires.within in
    let below : start + c.args.epochs * epoch ≢ c.args.network.now.topo.limit = λ e. absurd (omega arith) in
    subst (λ (l : List Row). Written (rows_text l) (stream (g.O.Sink.taken c.args.out.now) (g.O.Sink.faults c.args.out.now)) (stream (g.O.Sink.taken c.write_rows_to.new.out) (g.O.Sink.faults c.write_rows_to.new.out)) c.write_rows_to.result)
    (ap (λ (n : ℕ). rows_upto f (n + c.args.epochs * epoch)) at ∙ rows_early f (start + c.args.epochs * epoch) below) c.write_rows_to.ensures
