use Rattle.asm_laws.proofs.Pieces.{line_piece}
use Rattle.asm_laws.proofs.one_line_law.Goals as goal

pub returns : goal.returns
returns c = line_piece
