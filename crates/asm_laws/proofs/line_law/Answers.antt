use Rattle.asm_laws.proofs.Lines.{lines_with, lines_without}
use Rattle.asm_laws.proofs.line_law.Goals as goal

pub returns-clause-at : goal.returns-clause-at
returns-clause-at c = lines_with

pub returns-clause-alone : goal.returns-clause-alone
returns-clause-alone c = lines_without
