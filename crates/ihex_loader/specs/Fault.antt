-- A fault of a file: what is wrong, and the number of the line. And how it is printed.
use Rattle.std.specs.Prelude.{ℕ, List, codes, Option, Some, None}
use Rattle.ihex_loader.specs.declared.fault.LineFault.{LineFault}
use Rattle.ihex_loader.specs.declared.fault.LineFault.TheVariants as on
use Rattle.ihex_loader.specs.declared.fault.HexFault.{HexFault}
use Rattle.ihex_loader.specs.declared.fault.HexFault.TheVariants as hex

-- what is wrong with a line, and its number, from 1
abbrev pub at_line : LineFault → ℕ → HexFault
at_line fault line = hex.AtLine line fault

abbrev pub fault_name : HexFault → List ℕ
fault_name (hex.AtLine line on.NotARecord) = codes "NotARecord"
fault_name (hex.AtLine line on.BadSum) = codes "BadSum"
fault_name (hex.AtLine line on.BadType) = codes "BadType"
fault_name (hex.AtLine line on.BadLength) = codes "BadLength"
fault_name (hex.AtLine line on.Crossing) = codes "Crossing"
fault_name (hex.AtLine line on.PastFlash) = codes "PastFlash"
fault_name (hex.AtLine line on.AfterEnd) = codes "AfterEnd"
fault_name hex.NoEnd = codes "NoEnd"
fault_name hex.NoMemory = codes "NoMemory"

abbrev pub fault_line : HexFault → Option ℕ
fault_line (hex.AtLine line fault) = Some line
fault_line hex.NoEnd = None
fault_line hex.NoMemory = None
