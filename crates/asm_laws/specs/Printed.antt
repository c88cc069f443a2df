-- What the text of an instruction that is printed assembles to.
use Rattle.std.specs.Prelude.{ℕ, if◌then◌else◌, List, Option, Some, None, Result}
use Rattle.avr_decoder.specs.declared.op.Op.{Op}
use Rattle.avr_decoder.specs.declared.op.Op.TheVariants as op
use Rattle.avr_decoder.specs.Opcodes.{op_at}
use Rattle.avr_decoder.specs.Words.{is_two_words}
use Rattle.avr_disassembler.specs.Text.{shown, operand_text}
use Rattle.avr_disassembler.specs.declared.parts.Operands.{Operands}
use Rattle.avr_disassembler.specs.declared.parts.Operands.TheVariants as printed
use Rattle.asm_words.specs.Line.{Texts, Zero, One, Two, Said, Code}
use Rattle.asm_words.specs.Encoded.{encoded, piece}
use Rattle.asm_words.specs.declared.labels.Label.{Label}
use Rattle.asm_words.specs.declared.instruction.Piece.{Piece}
use Rattle.asm_words.specs.declared.instruction.WordFault.{WordFault}

-- where each label stands first
abbrev pub Labels : Type 0
Labels = List ℕ → Option Label

-- the texts of printed operands, as a line of a source has them
abbrev pub texts : Operands → Texts
texts printed.Zero = Zero
texts (printed.One a) = One (operand_text a)
texts (printed.Two a b) = Two (operand_text a) (operand_text b)

-- what the printed mnemonic and operands of an instruction assemble to, at a word address and with these labels
abbrev pub assembled : Op → ℕ → Labels → Result Piece WordFault
assembled instruction at labels = encoded (shown instruction).mnemonic (texts (shown instruction).operands) at labels

-- what a line says that has an instruction as it is printed, with its word address or without one
abbrev pub code : Option ℕ → Op → Said
code address instruction = Code address (shown instruction).mnemonic (texts (shown instruction).operands)

-- the first word of an instruction, with the ignored bits of JMP and CALL 0
abbrev pub without_ignored : Op → ℕ → ℕ
without_ignored (op.Jmp k) word = 0x940C
without_ignored (op.Call k) word = 0x940E
without_ignored _ word = word

-- the word of an instruction of one, and the words of one of two
abbrev pub one_word : ℕ → Piece
one_word word = piece word None

abbrev pub two_words : ℕ → ℕ → Piece
two_words word next = piece (without_ignored (op_at word next) word) (Some next)

-- the words of the instruction at a word and the one behind it
abbrev pub words_at : ℕ → ℕ → Piece
words_at word next = if is_two_words word then two_words word next else one_word word
