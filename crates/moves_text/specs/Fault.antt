-- A fault of a sweep's moves: what is wrong, and the number of the line. And how it is printed.
use Rattle.std.specs.Prelude.{ℕ, List, codes, Option, Some, None}
use Rattle.moves_text.specs.declared.fault.LineFault.{LineFault}
use Rattle.moves_text.specs.declared.fault.LineFault.TheVariants as on
use Rattle.moves_text.specs.declared.fault.MovesFault.{MovesFault}
use Rattle.moves_text.specs.declared.fault.MovesFault.TheVariants as moves

-- what is wrong with a line, and its number, from 1
abbrev pub at_line : LineFault → ℕ → MovesFault
at_line fault line = moves.AtLine line fault

abbrev pub fault_name : MovesFault → List ℕ
fault_name (moves.AtLine line on.BadLine) = codes "BadLine"
fault_name (moves.AtLine line on.NoNode) = codes "NoNode"
fault_name (moves.AtLine line on.OutOfRange) = codes "OutOfRange"
fault_name (moves.AtLine line on.Unordered) = codes "Unordered"
fault_name (moves.AtLine line on.TooLong) = codes "TooLong"
fault_name moves.Empty = codes "Empty"
fault_name moves.NoMemory = codes "NoMemory"

abbrev pub fault_line : MovesFault → Option ℕ
fault_line (moves.AtLine line fault) = Some line
fault_line moves.Empty = None
fault_line moves.NoMemory = None
