use Rattle.std.proofs.Common.{ap, ◌∙◌}
use Rattle.board_io.specs.Board.{clocked}
use Rattle.board_io.proofs.lagging.LaggingBoard.new.Goals as goal

pub returns : goal.returns
returns c = c.restored.ensures ∙ ap (clocked 0) c.new.ensures
