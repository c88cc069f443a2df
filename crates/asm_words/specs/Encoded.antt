-- The words of an instruction of an assembler's source.
use Rattle.std.specs.Prelude.{ℕ, ◌+◌, ◌*◌, ◌%◌, nat_lt, Bool, true, false, if◌then◌else◌, List, Option, Some, None, Result, Ok, Err}
use Rattle.avr_decoder.specs.declared.op.Op.{Op}
use Rattle.avr_decoder.specs.declared.op.Op.TheVariants.{Undefined}
use Rattle.avr_decoder.specs.Opcodes.{op_at}
use Rattle.asm_words.specs.Text.{is_label}
use Rattle.asm_words.specs.Line.{Texts, Zero, One, Two, Many}
use Rattle.asm_words.specs.Number.{number, register}
use Rattle.asm_words.specs.Fields.{register_bits, number_bits, pointer, flash_pointer, displaced_of}
use Rattle.asm_words.specs.Opcodes.{bare, one, two, is_known}
use Rattle.asm_words.specs.Target.{offset_of, reach}
use Rattle.asm_words.specs.declared.labels.Label.{Label}
use Rattle.asm_words.specs.declared.target.JumpOffset.{JumpOffset}
use Rattle.asm_words.specs.declared.form.Field.{Field}
use Rattle.asm_words.specs.declared.form.Field.TheVariants as field
use Rattle.asm_words.specs.declared.form.RegisterField.{RegisterField}
use Rattle.asm_words.specs.declared.form.NumberField.{NumberField}
use Rattle.asm_words.specs.declared.form.OneForm.{OneForm}
use Rattle.asm_words.specs.declared.form.TwoForm.{TwoForm}
use Rattle.asm_words.specs.declared.operand.Part.{Part}
use Rattle.asm_words.specs.declared.instruction.Piece.{Piece}
use Rattle.asm_words.specs.declared.instruction.WordFault.{WordFault}
use Rattle.asm_words.specs.declared.instruction.WordFault.TheVariants.{UnknownMnemonic, BadOperand, NoLabel, OutOfReach}

abbrev pub part : ℕ → Option ℕ → Part
part bits second = record { bits = bits; second = second }

abbrev pub piece : ℕ → Option ℕ → Piece
piece first second = record { first = first; second = second }

abbrev pub bits_part : Option ℕ → Result Part WordFault
bits_part None = Err BadOperand
bits_part (Some bits) = Ok (part bits None)

abbrev pub register_part : RegisterField → Option ℕ → Result Part WordFault
register_part f None = Err BadOperand
register_part f (Some n) = bits_part (register_bits f n)

abbrev pub number_part : NumberField → Option ℕ → Result Part WordFault
number_part f None = Err BadOperand
number_part f (Some n) = bits_part (number_bits f n)

-- an address of 16 bits in the second word
abbrev pub data_part : Option ℕ → Result Part WordFault
data_part None = Err BadOperand
data_part (Some n) = if nat_lt 65535 n then Err BadOperand else Ok (part 0 (Some n))

abbrev pub place_label : Option Label → Result Part WordFault
place_label None = Err NoLabel
place_label (Some label) = if nat_lt 65535 label.address then Err OutOfReach else Ok (part 0 (Some label.address))

-- where JMP and CALL go: a label, or a number
abbrev pub place_part : List ℕ → (List ℕ → Option Label) → Result Part WordFault
place_part text labels = if is_label text then place_label (labels text) else data_part (number text)

abbrev pub reach_part : ℕ → Result ℕ WordFault → Result Part WordFault
reach_part scale (Err f) = Err f
reach_part scale (Ok bits) = Ok (part (scale * bits) None)

-- a relative target, in a field that reaches half words back and whose lowest place has this value
abbrev pub offset_part : ℕ → ℕ → Result JumpOffset WordFault → Result Part WordFault
offset_part half scale (Err f) = Err f
offset_part half scale (Ok h) = reach_part scale (reach half h)

-- what an operand gives in a field of an instruction at a word address
unfoldable pub part_of : Field → List ℕ → ℕ → (List ℕ → Option Label) → Result Part WordFault
part_of (field.Register f) text at labels = register_part f (register text)
part_of (field.Number f) text at labels = number_part f (number text)
part_of field.Pointer text at labels = bits_part (pointer text)
part_of field.FlashPointer text at labels = bits_part (flash_pointer text)
part_of field.Displaced text at labels = bits_part (displaced_of text)
part_of field.Data text at labels = data_part (number text)
part_of field.Place text at labels = place_part text labels
part_of field.Jump text at labels = offset_part 2048 1 (offset_of text at labels)
part_of field.Branch text at labels = offset_part 64 8 (offset_of text at labels)

-- a mnemonic that has no form with so many operands, or that is none
abbrev pub no_form : List ℕ → WordFault
no_form mnemonic = if is_known mnemonic then BadOperand else UnknownMnemonic

abbrev pub bare_word : List ℕ → Option ℕ → Result Piece WordFault
bare_word mnemonic None = Err (no_form mnemonic)
bare_word mnemonic (Some first) = Ok (piece first None)

abbrev pub bare_piece : List ℕ → Result Piece WordFault
bare_piece mnemonic = bare_word mnemonic (bare mnemonic)

abbrev pub with_part : ℕ → Result Part WordFault → Result Piece WordFault
with_part opcode (Err f) = Err f
with_part opcode (Ok p) = Ok (piece ((opcode + p.bits) % 65536) p.second)

abbrev pub one_piece : OneForm → List ℕ → ℕ → (List ℕ → Option Label) → Result Piece WordFault
one_piece form text at labels = with_part form.opcode (part_of form.field text at labels)

-- the decoder's table says that the manual leaves undefined what a word does
abbrev pub is_undefined_op : Op → Bool
is_undefined_op (Undefined word) = true
is_undefined_op _ = false

abbrev pub is_undefined : ℕ → Bool
is_undefined word = is_undefined_op (op_at word 0)

abbrev pub checked : Piece → Result Piece WordFault
checked p = if is_undefined p.first then Err BadOperand else Ok p

abbrev pub second_of : Option ℕ → Option ℕ → Option ℕ
second_of (Some word) other = Some word
second_of None other = other

abbrev pub with_parts : ℕ → Result Part WordFault → Result Part WordFault → Result Piece WordFault
with_parts opcode (Err f) q = Err f
with_parts opcode (Ok p) (Err f) = Err f
with_parts opcode (Ok p) (Ok q) = checked (piece (((opcode + p.bits) % 65536 + q.bits) % 65536) (second_of p.second q.second))

abbrev pub two_piece : TwoForm → List ℕ → List ℕ → ℕ → (List ℕ → Option Label) → Result Piece WordFault
two_piece form a b at labels = with_parts form.opcode (part_of form.first a at labels) (part_of form.second b at labels)

abbrev pub one_form : List ℕ → List ℕ → ℕ → (List ℕ → Option Label) → Option OneForm → Result Piece WordFault
one_form mnemonic a at labels None = Err (no_form mnemonic)
one_form mnemonic a at labels (Some form) = one_piece form a at labels

abbrev pub two_form : List ℕ → List ℕ → List ℕ → ℕ → (List ℕ → Option Label) → Option TwoForm → Result Piece WordFault
two_form mnemonic a b at labels None = Err (no_form mnemonic)
two_form mnemonic a b at labels (Some form) = two_piece form a b at labels

-- the words of an instruction at a word address, where labels stand so
unfoldable pub encoded : List ℕ → Texts → ℕ → (List ℕ → Option Label) → Result Piece WordFault
encoded mnemonic Zero at labels = bare_piece mnemonic
encoded mnemonic (One a) at labels = one_form mnemonic a at labels (one mnemonic)
encoded mnemonic (Two a b) at labels = two_form mnemonic a b at labels (two mnemonic)
encoded mnemonic Many at labels = Err (no_form mnemonic)
