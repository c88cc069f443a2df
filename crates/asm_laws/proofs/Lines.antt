-- The line of an instruction, as it is printed, is cut into its address, its mnemonic and its operands.
use Rattle.std.proofs.Common.{◌≡◌, ℕ, suc, ◌/◌, ◌%◌, ◌<◌, ◌==◌, ◌&&◌, not, if◌then◌else◌, true, false, List, [], ◌∷◌, ◌++◌, length, position, is_some, Some, None, refl, ap, ◌∙◌, append_assoc, append-nil, arith}
use Rattle.std.specs.Prelude.{codes}
use Rattle.std.specs.Fmt.{digit_glyph}
use Rattle.std.specs.List.{list_all}
use Rattle.std.proofs.lemmas.Bool.{and_parts, ne_eqb}
use Rattle.avr_decoder.specs.declared.op.Op.{Op}
use Rattle.avr_decoder.specs.Opcodes.{op_at}
use Rattle.avr_disassembler.specs.Text as printed
use Rattle.avr_disassembler.specs.Text.{shown, text_of, operand_text, operands_text}
use Rattle.avr_disassembler.specs.declared.parts.Operands.{Operands}
use Rattle.avr_disassembler.specs.declared.parts.Operands.TheVariants as operands
use Rattle.sim_io.specs.Digits.{hex2, hex4}
use Rattle.asm_words.specs.Text.{address_of, is_blank, is_printed}
use Rattle.asm_words.specs.Line.{Code, Empty, NotALine, line_of, statement_of, code_of, marked_of, instruction_of}
use Rattle.asm_laws.specs.Printed.{code, texts}
use Rattle.asm_laws.proofs.Cut.{Ends, appended, body_whole, cut_zero, cut_one, cut_two, ends_behind, ends_more, ends_solid, is_kept, is_solid, is_solid_text, kept, position_none, solid_all, visible, weaker}
use Rattle.asm_laws.proofs.Bytes.{AllFit, address_is, hex4_solid, is_name, mnemonic_is, name_solid, no_address, operand_solid}
use Rattle.asm_laws.proofs.Bounds.{Shows, all_show}

kept_solid : (xs : List ℕ) → is_solid_text xs ≡ true → list_all is_kept xs ≡ true
kept_solid xs h = weaker is_solid is_kept kept xs (solid_all xs h)

module _ (m : List ℕ) (hm : is_solid_text m ≡ true) where
  both_texts : (a b : List ℕ) → codes " " ++ a ++ codes ", " ++ b ≡ 32 ∷ (a ++ 44 ∷ 32 ∷ b)
  both_texts a b = ap (λ t. 32 ∷ t) (append_assoc a (codes ", ") b)

  cut : (ops : Operands) → AllFit ops → instruction_of (m ++ operands_text ops) ≡ (m, texts ops)
  unfolding operands_text
  cut operands.Zero h = ap instruction_of (append-nil m) ∙ cut_zero m hm
  cut (operands.One a) h = cut_one m hm (operand_text a) (operand_solid a h)
  cut (operands.Two a b) h =
      ap (λ t. instruction_of (m ++ t)) (both_texts (operand_text a) (operand_text b))
      ∙ cut_two m hm (operand_text a) (operand_solid a h.0) (operand_text b) (operand_solid b h.1)

  kept_line : (ops : Operands) → AllFit ops → list_all is_kept (m ++ operands_text ops) ≡ true
  unfolding operands_text
  kept_line operands.Zero h = appended is_kept m [] (kept_solid m hm) refl
  kept_line (operands.One a) h = appended is_kept m (32 ∷ operand_text a) (kept_solid m hm) (kept_solid (operand_text a) (operand_solid a h))
  kept_line (operands.Two a b) h =
      ap (λ t. list_all is_kept (m ++ t)) (both_texts (operand_text a) (operand_text b))
      ∙ appended is_kept m (32 ∷ (operand_text a ++ 44 ∷ 32 ∷ operand_text b)) (kept_solid m hm)
      (appended is_kept (operand_text a) (44 ∷ 32 ∷ operand_text b) (kept_solid (operand_text a) (operand_solid a h.0)) (kept_solid (operand_text b) (operand_solid b h.1)))

  ends_line : (ops : Operands) → AllFit ops → Ends (m ++ operands_text ops)
  unfolding operands_text
  ends_line operands.Zero h = rw append-nil (ends_solid m hm)
  ends_line (operands.One a) h = ends_behind m (32 ∷ operand_text a) (ends_more 32 (operand_text a) (ends_solid (operand_text a) (operand_solid a h)))
  ends_line (operands.Two a b) h =
      ends_behind m (codes " " ++ operand_text a ++ codes ", " ++ operand_text b)
      (ends_behind (codes " " ++ operand_text a ++ codes ", ") (operand_text b) (ends_solid (operand_text b) (operand_solid b h.1)))

-- a line of printed bytes that has no colon says an instruction
statement_is : (x : ℕ) (xs : List ℕ) → is_blank x ≡ false → list_all is_kept (x ∷ xs) ≡ true → Ends (x ∷ xs) → line_of (x ∷ xs) ≡ code_of (address_of (x ∷ xs)) (x ∷ xs)
unfolding line_of
statement_is x xs e k ends =
    let all : list_all is_printed (x ∷ xs) ≡ true = weaker is_kept is_printed (λ c h. (and_parts (is_printed c) (not (c == 58) && not (c == 59)) h).0) (x ∷ xs) k in
    let colons : position (λ c. c == 58) (x ∷ xs) ≡ None =
    position_none (λ c. c == 58) (x ∷ xs) (weaker is_kept (λ c. not (c == 58)) (λ c h. (and_parts (not (c == 58)) (not (c == 59)) (and_parts (is_printed c) (not (c == 58) && not (c == 59)) h).1).0) (x ∷ xs) k) in
    ap statement_of (body_whole x xs e k ends)
    ∙ (λ i.
    if not (all i) then NotALine
    else if ne_eqb 0 (suc (length xs)) (omega arith) i then Empty
    else if is_some (colons i) then marked_of (x ∷ xs)
    else code_of (address_of (x ∷ xs)) (x ∷ xs))

-- the other digits of an address, and the line behind its first digit
abbrev later_digits : ℕ → List ℕ
later_digits pc = digit_glyph true (pc / 256 % 16) ∷ digit_glyph true (pc % 256 / 16) ∷ digit_glyph true (pc % 256 % 16) ∷ []

abbrev behind_digit : ℕ → List ℕ → List ℕ
behind_digit pc rest = later_digits pc ++ 32 ∷ rest

-- a text that begins with a mnemonic
alone : (m : List ℕ) → is_name m ≡ true → (rest : List ℕ) → list_all is_kept (m ++ rest) ≡ true → Ends (m ++ rest) → line_of (m ++ rest) ≡ code_of None (m ++ rest)
alone [] h rest k ends = absurd (cc)
alone (c ∷ cs) h rest k ends =
    statement_is c (cs ++ rest) (visible c (and_parts (is_solid c) (list_all is_solid cs) (name_solid (c ∷ cs) h)).0) k ends
    ∙ ap (λ o. code_of o (c ∷ (cs ++ rest))) (no_address (c ∷ cs) rest h)

module _ (instruction : Op) (shows : Shows instruction) where
  name : is_solid_text (shown instruction).mnemonic ≡ true
  name = name_solid (shown instruction).mnemonic (mnemonic_is instruction)

  text_cut : instruction_of (text_of instruction) ≡ ((shown instruction).mnemonic, texts (shown instruction).operands)
  unfolding text_of
  text_cut = cut (shown instruction).mnemonic name (shown instruction).operands shows

  text_kept : list_all is_kept (text_of instruction) ≡ true
  unfolding text_of
  text_kept = kept_line (shown instruction).mnemonic name (shown instruction).operands shows

  text_ends : Ends (text_of instruction)
  unfolding text_of
  text_ends = ends_line (shown instruction).mnemonic name (shown instruction).operands shows

  pub with_address : (pc : ℕ) → pc < 65536 → line_of (printed.line_of pc instruction) ≡ code (Some pc) instruction
  unfolding printed.line_of hex2 hex4
  with_address pc h =
      let rest = text_of instruction in
      let solid = hex4_solid pc h in
      statement_is (digit_glyph true (pc / 256 / 16)) (behind_digit pc rest)
      (visible (digit_glyph true (pc / 256 / 16)) (and_parts (is_solid (digit_glyph true (pc / 256 / 16))) (list_all is_solid (later_digits pc)) solid).0)
      (appended is_kept (hex4 pc) (32 ∷ rest) (weaker is_solid is_kept kept (hex4 pc) solid) text_kept)
      (ends_behind (hex4 pc) (32 ∷ rest) (ends_more 32 rest text_ends))
      ∙ (λ i. code_of (address_is pc rest h i) (hex4 pc ++ 32 ∷ rest))
      ∙ ap (λ c. Code (Some pc) c.0 c.1) text_cut

  pub kept_with : (pc : ℕ) → pc < 65536 → list_all is_kept (printed.line_of pc instruction) ≡ true
  unfolding printed.line_of hex2 hex4
  kept_with pc h = appended is_kept (hex4 pc) (32 ∷ text_of instruction) (weaker is_solid is_kept kept (hex4 pc) (hex4_solid pc h)) text_kept

  pub without_address : line_of (text_of instruction) ≡ code None instruction
  unfolding text_of
  without_address =
      alone (shown instruction).mnemonic (mnemonic_is instruction) (operands_text (shown instruction).operands) text_kept text_ends
      ∙ ap (λ c. Code None c.0 c.1) text_cut

pub lines_with : (word next pc : ℕ) → word < 65536 → next < 65536 → pc < 65536 → line_of (printed.line_of pc (op_at word next)) ≡ code (Some pc) (op_at word next)
lines_with word next pc small second h = with_address (op_at word next) (all_show word next small second) pc h

pub lines_without : (word next : ℕ) → word < 65536 → next < 65536 → line_of (text_of (op_at word next)) ≡ code None (op_at word next)
lines_without word next small second = without_address (op_at word next) (all_show word next small second)
