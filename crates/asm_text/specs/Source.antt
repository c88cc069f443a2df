-- The program of an assembler's source, or the fault that decides.
use Rattle.std.specs.Prelude.{ℕ, ◌+◌, ◌==◌, nat_lt, min, not, Bool, true, false, if◌then◌else◌, List, [], ◌∷◌, ◌++◌, map, Option, Some, None, Result, Ok, Err}
use Rattle.std.specs.List.{slice_split}
use Rattle.std.specs.Str.{bytes_eq}
use Rattle.asm_words.specs.Line.{Said, Empty, Label, Code, NotALine, line_of}
use Rattle.asm_words.specs.Opcodes.{width}
use Rattle.asm_words.specs.Encoded.{encoded}
use Rattle.asm_words.specs.declared.labels.Label as label
use Rattle.asm_words.specs.declared.instruction.Piece.{Piece}
use Rattle.asm_words.specs.declared.instruction.WordFault.{WordFault}
use Rattle.asm_words.specs.declared.instruction.WordFault.TheVariants as word
use Rattle.asm_text.specs.Fault.{at_line}
use Rattle.asm_text.specs.declared.fault.LineFault.{LineFault}
use Rattle.asm_text.specs.declared.fault.LineFault.TheVariants as on
use Rattle.asm_text.specs.declared.fault.AsmFault.{AsmFault}

-- the lines between the LFs
abbrev pub lines_of : List ℕ → List Said
lines_of text = map line_of (slice_split (λ b. b == 10) text)

-- how many words a line takes
abbrev pub size : Said → ℕ
size Empty = 0
size (Label name) = 0
size (Code address mnemonic texts) = width mnemonic
size NotALine = 0

-- the word address behind a line; a line that passes 65,536 is PastFlash, and no address behind it counts
abbrev pub behind : ℕ → Said → ℕ
behind at line = min (at + size line) 65536

abbrev pub labelled : ℕ → ℕ → label.Label
labelled number at = record { line = number; address = at }

-- what is known, or else this
abbrev pub or_else : {X : Type 0} → Option X → Option X → Option X
or_else (Some x) other = Some x
or_else None other = other

-- the first line, of those from a number, counted from 0, and an address on, that has a label
abbrev pub label_in : ℕ → ℕ → List Said → List ℕ → Option label.Label
label_in number at [] name = None
label_in number at (Empty ∷ lines) name = label_in (number + 1) (behind at Empty) lines name
label_in number at (NotALine ∷ lines) name = label_in (number + 1) (behind at NotALine) lines name
label_in number at (Code a m t ∷ lines) name = label_in (number + 1) (behind at (Code a m t)) lines name
label_in number at (Label x ∷ lines) name =
    if bytes_eq x name then Some (labelled number at) else label_in (number + 1) (behind at (Label x)) lines name

abbrev pub is_at : Option ℕ → ℕ → Bool
is_at None at = true
is_at (Some named) at = named == at

-- the first fault of an instruction whose words are these, or that has none for this cause, or its words
abbrev pub placed : ℕ → Bool → ℕ → Result Piece WordFault → Result (Option Piece) LineFault
placed at here words (Err word.UnknownMnemonic) = Err on.UnknownMnemonic
placed at here words (Err word.BadOperand) = Err on.BadOperand
placed at here words (Err word.NoLabel) = if not here then Err on.BadAddress else Err on.NoLabel
placed at here words (Err word.OutOfReach) =
    if not here then Err on.BadAddress else if nat_lt 65536 (at + words) then Err on.PastFlash else Err on.OutOfReach
placed at here words (Ok p) =
    if not here then Err on.BadAddress else if nat_lt 65536 (at + words) then Err on.PastFlash else Ok (Some p)

-- a label's line is the first that has it
abbrev pub first_of : ℕ → Option label.Label → Result (Option Piece) LineFault
first_of number None = Ok None
first_of number (Some l) = if l.line == number then Ok None else Err on.TwiceLabelled

-- the first fault of a line of this number at this address, or its words, if it has some
unfoldable pub piece_of : (List ℕ → Option label.Label) → ℕ → ℕ → Said → Result (Option Piece) LineFault
piece_of labels number at Empty = Ok None
piece_of labels number at (Label name) = first_of number (labels name)
piece_of labels number at (Code address mnemonic texts) = placed at (is_at address at) (width mnemonic) (encoded mnemonic texts at labels)
piece_of labels number at NotALine = Err on.NotALine

abbrev pub second_word : Option ℕ → List ℕ
second_word None = []
second_word (Some w) = w ∷ []

-- the words of a piece
abbrev pub words_of : Option Piece → List ℕ
words_of None = []
words_of (Some p) = p.first ∷ second_word p.second

-- the first of two numbers
abbrev pub first_known : Option ℕ → ℕ → Option ℕ
first_known None n = Some n
first_known (Some m) n = Some m

-- what is done so far: the word address, the first line out of reach, from 1, and the words
pub record Progress : Type 0 where
  pub at : ℕ
  pub far : Option ℕ
  pub words : List ℕ

abbrev pub is_far : LineFault → Bool
is_far on.OutOfReach = true
is_far _ = false

-- what is done behind a line of this number
abbrev pub after : Progress → Said → ℕ → Result (Option Piece) LineFault → Result Progress AsmFault
after so line number (Ok p) = Ok (record { at = behind so.at line; far = so.far; words = so.words ++ words_of p })
after so line number (Err fault) =
    if is_far fault then Ok (record { at = behind so.at line; far = first_known so.far (number + 1); words = so.words })
    else Err (at_line fault (number + 1))

-- what is done behind a line that follows what is done so far, or what is wrong with it
abbrev pub taken : (List ℕ → Option label.Label) → ℕ → Progress → Said → Result Progress AsmFault
taken labels number so line = after so line number (piece_of labels number so.at line)

-- with no line left: the first line out of reach decides, or there is the program
abbrev pub ended : Option ℕ → List ℕ → Result (List ℕ) AsmFault
ended None words = Ok words
ended (Some number) words = Err (at_line on.OutOfReach number)

-- the program of the lines from a number on, behind what is done so far: the first line with a fault other than
-- OutOfReach decides
unfoldable pub assembled_from : (List ℕ → Option label.Label) → ℕ → Progress → List Said → Result (List ℕ) AsmFault
assembled_from labels number so [] = ended so.far so.words
assembled_from labels number so (line ∷ lines) =
    elim (taken labels number so line) [
      | Err fault ↦ Err fault
      | Ok more ↦ assembled_from labels (number + 1) more lines
    ]

abbrev pub started : Progress
started = record { at = 0; far = None; words = [] }

-- the program of a source, or the fault that decides
unfoldable pub assembled : List ℕ → Result (List ℕ) AsmFault
assembled text = let lines = lines_of text in assembled_from (label_in 0 0 lines) 0 started lines
