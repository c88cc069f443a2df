-- The printed line of an instruction, as a line of a source at its own address, has the instruction's words.
use Rattle.std.proofs.Common.{◌≡◌, ℕ, ◌+◌, ◌<◌, ◌≤◌, if◌then◌else◌, Bool, true, false, Some, Result, Ok, refl, sym, ap, subst, ◌∙◌, arith}
use Rattle.std.proofs.lemmas.Bool.{eq-eqb, le-ltb}
use Rattle.avr_decoder.specs.declared.op.Op.{Op}
use Rattle.avr_decoder.specs.declared.op.Op.TheVariants as op
use Rattle.avr_decoder.specs.Opcodes.{op_at}
use Rattle.avr_decoder.specs.Words.{is_two_words, words_of}
use Rattle.avr_decoder.proofs.Long.{words_by_word}
use Rattle.avr_disassembler.specs.Text as printed
use Rattle.avr_disassembler.specs.Text.{shown}
use Rattle.asm_words.specs.Line.{line_of}
use Rattle.asm_words.specs.Opcodes.{width, one_plain, one_alias, two_registers, two_narrow, two_signed, two_constant, two_memory, two_bits}
use Rattle.asm_words.specs.declared.instruction.Piece.{Piece}
use Rattle.asm_words.specs.declared.instruction.WordFault.{WordFault}
use Rattle.asm_text.specs.Source.{is_at, piece_of, placed}
use Rattle.asm_laws.specs.Printed.{Labels, assembled, code, one_word, two_words, words_at}
use Rattle.asm_laws.proofs.Singles.{one_back}
use Rattle.asm_laws.proofs.Doubles.{two_back}
use Rattle.asm_laws.proofs.Lines.{lines_with}

-- a mnemonic tells how many words its instruction takes
width_is : (o : Op) → width (shown o).mnemonic ≡ words_of o
unfolding shown one_plain one_alias two_registers two_narrow two_signed two_constant two_memory two_bits
width_is op.Nop = refl
width_is _ = refl

-- the words that are assembled, in one clause
both_back : (word next at : ℕ) (labels : Labels) → word < 65536 → next < 65536 → (t : Bool) → is_two_words word ≡ t → assembled (op_at word next) at labels ≡ Ok (if t then two_words word next else one_word word)
both_back word next at labels small second true e = two_back word next at labels small second e
both_back word next at labels small second false e = one_back word next at labels small e

placed_here : (at w : ℕ) (here : Bool) (p : Piece) (r : Result Piece WordFault) → here ≡ true → at + w ≤ 65536 → r ≡ Ok p → placed at here w r ≡ Ok (Some p)
placed_here at w here p r h fits e = rw (h, e, le-ltb 65536 (at + w) fits) refl

pub width_at : (word next : ℕ) → width (shown (op_at word next)).mnemonic ≡ (if is_two_words word then 2 else 1)
width_at word next = width_is (op_at word next) ∙ words_by_word word next

begins : (t : Bool) (pc : ℕ) → pc + (if t then 2 else 1) ≤ 65536 → pc < 65536
begins true pc h = omega arith
begins false pc h = omega arith

module _ (word next pc : ℕ) (small : word < 65536) (second : next < 65536) (fits : pc + (if is_two_words word then 2 else 1) ≤ 65536) where
  -- what the line says
  pub line_code : line_of (printed.line_of pc (op_at word next)) ≡ code (Some pc) (op_at word next)
  line_code = lines_with word next pc small second (begins (is_two_words word) pc fits)

  pub code_piece : (labels : Labels) (number : ℕ) → piece_of labels number pc (code (Some pc) (op_at word next)) ≡ Ok (Some (words_at word next))
  unfolding piece_of
  code_piece labels number =
      placed_here pc (width (shown (op_at word next)).mnemonic) (is_at (Some pc) pc) (words_at word next) (assembled (op_at word next) pc labels)
      (eq-eqb pc pc refl) (subst (λ n. pc + n ≤ 65536) (sym (width_at word next)) fits) (both_back word next pc labels small second (is_two_words word) refl)

pub line_piece : (word next pc number : ℕ) (labels : Labels) → word < 65536 → next < 65536 → pc + (if is_two_words word then 2 else 1) ≤ 65536
    → piece_of labels number pc (line_of (printed.line_of pc (op_at word next))) ≡ Ok (Some (words_at word next))
line_piece word next pc number labels small second fits =
    ap (piece_of labels number pc) (line_code word next pc small second fits) ∙ code_piece word next pc small second fits labels number
