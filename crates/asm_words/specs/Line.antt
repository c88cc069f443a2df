-- What a line of an assembler's source says by itself.
use Rattle.std.specs.Prelude.{ℕ, ◌-◌, ◌+◌, ◌==◌, ◌&&◌, not, if◌then◌else◌, List, length, take, drop, slice_index, position, is_some, Option, Some, None}
use Rattle.std.specs.List.{list_all}
use Rattle.asm_words.specs.Text.{is_blank, is_printed, is_label, trim_start, body_of, address_of}
use Rattle.asm_words.specs.declared.line.Operands.{Operands}
use Rattle.asm_words.specs.declared.line.Operands.TheVariants as operands
use Rattle.asm_words.specs.declared.line.Line.{Line}
use Rattle.asm_words.specs.declared.line.Line.TheVariants as line

-- the texts of the operands
pub data Texts : Type 0 where
  Zero : Texts
  One : (a : List ℕ) → Texts
  Two : (a b : List ℕ) → Texts
  Many : Texts

-- nothing, a label, an instruction with the word address that the line may name, or a line that is none
pub data Said : Type 0 where
  Empty : Said
  Label : (name : List ℕ) → Said
  Code : (address : Option ℕ) (mnemonic : List ℕ) (texts : Texts) → Said
  NotALine : Said

-- the operands of the code as texts
abbrev pub told : Operands → Texts
told operands.Zero = Zero
told (operands.One a) = One a.now
told (operands.Two a b) = Two a.now b.now
told operands.Many = Many

abbrev pub said : Line → Said
said line.Empty = Empty
said (line.Label name) = Label name.now
said (line.Instruction i) = Code i.address i.mnemonic.now (told i.operands)
said line.NotALine = NotALine

-- two operands, where the second text has no comma, 44
abbrev pub pair_of : List ℕ → List ℕ → Texts
pair_of first second = if is_some (position (λ c. c == 44) second) then Many else Two first second

-- the operands in a text: none where it is empty; a comma separates them, and blanks behind it do not count
abbrev pub texts_behind : Option ℕ → List ℕ → Texts
texts_behind None text = One text
texts_behind (Some i) text = pair_of (take i text) (trim_start (drop (i + 1) text))

unfoldable pub texts_of : List ℕ → Texts
texts_of text = if 0 == length text then Zero else texts_behind (position (λ c. c == 44) text) text

-- the mnemonic, up to the first blank, and the operands behind it
abbrev pub instruction_at : Option ℕ → List ℕ → List ℕ × Texts
instruction_at None text = (text, Zero)
instruction_at (Some i) text = (take i text, texts_of (trim_start (drop i text)))

abbrev pub instruction_of : List ℕ → List ℕ × Texts
instruction_of text = instruction_at (position is_blank text) text

-- a line that has a colon, 58: a label with the colon behind it, or no line
abbrev pub marked_of : List ℕ → Said
marked_of body =
    let name = take (length body - 1) body in
    if slice_index body (length body - 1) == 58 && is_label name then Label name else NotALine

-- an instruction, where the line may name its address
abbrev pub code_of : Option ℕ → List ℕ → Said
code_of None body = Code None (instruction_of body).0 (instruction_of body).1
code_of (Some at) body = Code (Some at) (instruction_of (drop 5 body)).0 (instruction_of (drop 5 body)).1

abbrev pub statement_of : List ℕ → Said
statement_of body =
    if not (list_all is_printed body) then NotALine
    else if 0 == length body then Empty
    else if is_some (position (λ c. c == 58) body) then marked_of body
    else code_of (address_of body) body

-- what a line says, from the bytes between two LFs
unfoldable pub line_of : List ℕ → Said
line_of text = statement_of (body_of text)
