-- The text of a trace. Each row is one line: the cycle and the node's number in decimal, what happened, and what
-- belongs to it, parted by single spaces. Program addresses are words in four hexadecimal digits, bytes have two.
use Rattle.std.specs.Prelude.{ℕ, List, ◌++◌, codes, decimal}
use Rattle.std.specs.List.{flat_map}
use Rattle.avr_base.specs.Causes.{cause_text}
use Rattle.avr_decoder.specs.Opcodes.{op_at}
use Rattle.avr_disassembler.specs.Text.{line_of}
use Rattle.sim_io.specs.Digits.{hex2, hex4}
use Rattle.node_core.specs.declared.row.Row.{Row}
use Rattle.node_core.specs.declared.row.Kind.{Kind}
use Rattle.node_core.specs.declared.row.Kind.TheVariants.{Instr, Enter, Serial, Sent, Heard, Stop, End}
use Rattle.node_core.specs.declared.row.NodeEnd.{NodeEnd}
use Rattle.node_core.specs.declared.row.NodeEnd.TheVariants.{Running, Asleep, Stopped}

-- how a node stands at the end
unfoldable pub state_text : NodeEnd → List ℕ
state_text Running = codes "running"
state_text Asleep = codes "asleep"
state_text Stopped = codes "stopped"

-- what stands behind the cycle and the node
unfoldable pub kind_text : Kind → List ℕ
kind_text (Instr pc word next) = codes "instr " ++ line_of pc (op_at word next)
kind_text (Enter vector back) = codes "enter " ++ hex4 vector ++ codes " " ++ hex4 back
kind_text (Serial byte) = codes "serial " ++ hex2 byte
kind_text (Sent byte) = codes "sent " ++ hex2 byte
kind_text (Heard heard) = codes "heard " ++ decimal heard.status ++ codes " " ++ hex2 heard.byte ++ codes " " ++ decimal heard.age
kind_text (Stop pc cause) = codes "stop " ++ hex4 pc ++ codes " " ++ cause_text cause
kind_text (End state instructions) = codes "end " ++ decimal instructions ++ codes " " ++ state_text state

-- the line of a row
unfoldable pub row_line : Row → List ℕ
row_line row = decimal row.cycle ++ codes " " ++ decimal row.node ++ codes " " ++ kind_text row.kind ++ codes "\n"

-- the lines of rows
unfoldable pub rows_text : List Row → List ℕ
rows_text rows = flat_map row_line rows
