use Rattle.std.proofs.Common.{ap, ◌∙◌}
use Rattle.board_io.specs.declared.clocked.ClockedBoard.{ClockedBoard}
use Rattle.board_io.proofs.lagging.LaggingBoard.now.Goals as goal

pub returns-clause-value : goal.returns-clause-value
returns-clause-value c = c.get.ensures.value ∙ ap (λ (v : ClockedBoard). v.clock) c.self.view_is
