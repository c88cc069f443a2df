use Rattle.std.proofs.Common.{sym, ◌∙◌}
use Rattle.world_core.proofs.Search.{reached_low, reached_not_yet, reached_until}
use Rattle.world_core.proofs.spans.is_reached.Goals as goal

pub returns-then-cycle-latency : goal.returns-then-cycle-latency
returns-then-cycle-latency c = sym (reached_low c.args.spans.now c.args.place c.args.latency c.args.byte_time c.args.cycle c.if-cycle-latency.true)

pub returns-in-NotYet : goal.returns-in-NotYet
returns-in-NotYet c = sym (reached_not_yet c.args.spans.now c.args.place c.args.latency c.args.byte_time c.args.cycle c.if-cycle-latency.false c.in-NotYet.ensures.0 c.in-NotYet.ensures.1)

pub returns-in-Until : goal.returns-in-Until
returns-in-Until c = c.is_in_reach.ensures ∙ sym (reached_until c.args.spans.now c.args.place c.args.latency c.args.byte_time c.args.cycle c.in-Until.until c.if-cycle-latency.false c.in-Until.ensures)
