use Rattle.std.proofs.Common.{sym, ◌∙◌}
use Rattle.board_io.proofs.Still.{still_at}
use Rattle.board_io.proofs.lagging.LaggingBoard.reads_still.Goals as goal

pub returns : goal.returns
returns c e =
    let i = c.self.inside in
    still_at _ c.args.at i.ahead.settled i.held.clock i.held.board c.args.self.now c.listed_rule.ensures c.self.view_is (sym c.reads_still.ensures ∙ e)
