use Rattle.std.proofs.Common.{sym}
use Rattle.state_text.proofs.Pieces.{next_some}
use Rattle.state_text.proofs.lines.Lines.next_line.Goals as goal

pub returns-in-Some : goal.returns-in-Some
returns-in-Some c = next_some c.self.inside.number c.self.inside.rest.now c.in-Some.line.now c.in-Some.rest.now c.args.self.now (sym c.self.view_is) c.in-Some.ensures.some
