use Rattle.pieces_law.proofs.InTurn.{one_save}
use Rattle.pieces_law.proofs.saves_law.Goals as goal

pub returns : goal.returns
returns c = one_save
