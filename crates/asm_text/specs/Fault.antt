-- A fault of a source: what is wrong, and the number of the line. And how it is printed.
use Rattle.std.specs.Prelude.{ℕ, List, codes, Option, Some, None}
use Rattle.asm_text.specs.declared.fault.LineFault.{LineFault}
use Rattle.asm_text.specs.declared.fault.LineFault.TheVariants as on
use Rattle.asm_text.specs.declared.fault.AsmFault.{AsmFault}
use Rattle.asm_text.specs.declared.fault.AsmFault.TheVariants as asm

-- what is wrong with a line, and its number, from 1
abbrev pub at_line : LineFault → ℕ → AsmFault
at_line fault line = asm.AtLine line fault

abbrev pub fault_name : AsmFault → List ℕ
fault_name (asm.AtLine line on.NotALine) = codes "NotALine"
fault_name (asm.AtLine line on.UnknownMnemonic) = codes "UnknownMnemonic"
fault_name (asm.AtLine line on.BadOperand) = codes "BadOperand"
fault_name (asm.AtLine line on.BadAddress) = codes "BadAddress"
fault_name (asm.AtLine line on.TwiceLabelled) = codes "TwiceLabelled"
fault_name (asm.AtLine line on.NoLabel) = codes "NoLabel"
fault_name (asm.AtLine line on.PastFlash) = codes "PastFlash"
fault_name (asm.AtLine line on.OutOfReach) = codes "OutOfReach"
fault_name asm.NoMemory = codes "NoMemory"

abbrev pub fault_line : AsmFault → Option ℕ
fault_line (asm.AtLine line fault) = Some line
fault_line asm.NoMemory = None
