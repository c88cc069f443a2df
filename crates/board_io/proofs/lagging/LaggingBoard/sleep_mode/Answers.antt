use Rattle.std.proofs.Common.{◌-◌, ap, ◌∙◌}
use Rattle.board_io.specs.declared.clocked.ClockedBoard.{ClockedBoard}
use Rattle.board_io.specs.Board.{sleep_mode}
use Rattle.board_io.proofs.Lags.{sleep_leap}
use Rattle.board_io.proofs.lagging.LaggingBoard.sleep_mode.Goals as goal

pub returns : goal.returns
returns c =
    let i = c.self.inside in
    c.sleep_mode.ensures
    ∙ (sleep_leap i.ahead.settled (i.held.clock - i.ahead.settled) i.held.board ∙ ap (λ (v : ClockedBoard). sleep_mode v.board) c.self.view_is)
