use Rattle.command_plans.specs.Ends.{stream}
use Rattle.commands.proofs.Statuses.{done_clause}
use Rattle.commands.proofs.top.avrora.Goals as goal

pub returns-in-Ok : goal.returns-in-Ok
returns-in-Ok g c = done_clause _ _ _ _ _ _ _ _ _ _ _ c.do_on_threads-outcome.result _ c.in-Ok.ensures c.do_on_threads-outcome.ensures c.report.ensures

pub returns-in-Err : goal.returns-in-Err
returns-in-Err g c = c.in-Err.ensures (stream (g.O.Sink.taken c.args.out.now) (g.O.Sink.faults c.args.out.now))
