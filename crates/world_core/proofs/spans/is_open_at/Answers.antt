use Rattle.std.proofs.Common.{sym}
use Rattle.world_core.proofs.Search.{open_not_yet, open_until}
use Rattle.world_core.proofs.spans.is_open_at.Goals as goal

pub returns-in-NotYet : goal.returns-in-NotYet
returns-in-NotYet c = sym (open_not_yet c.args.spans.now c.args.place c.args.cycle c.in-NotYet.ensures.0 c.in-NotYet.ensures.1)

pub returns-in-Until : goal.returns-in-Until
returns-in-Until c = sym (open_until c.args.spans.now c.args.place c.args.cycle c.in-Until.until c.in-Until.ensures)
