-- The listing of a program memory assembles to its words.
use Rattle.std.proofs.Common.{◌≡◌, ℕ, zero, suc, ◌+◌, ◌*◌, ◌%◌, ◌<◌, ◌≤◌, ◌==◌, ◌&&◌, min, not, if◌then◌else◌, Bool, true, false, List, [], ◌∷◌, ◌++◌, map, length, get_or, Some, None, Result, Ok, refl, sym, ap, ◌∙◌, append_assoc, append-nil, add-one, inl, inr, arith}
use Rattle.std.specs.Prelude.{codes, All, slice_index}
use Rattle.std.specs.List.{flat_map, range_with_len, list_all}
use Rattle.std.proofs.lemmas.Bool.{and_parts, both_ways, cases_Bool, cases_lt}
use Rattle.std.proofs.lemmas.Bool.Decides.{nat_tests}
use Rattle.std.proofs.lemmas.List.{get_or_past}
use Rattle.std.proofs.lemmas.List.Folds.{list_all_at}
use Rattle.std.proofs.lemmas.List.FromFn.{map-range_with_len_more}
use Rattle.std.proofs.lemmas.List.Splits.{slice_split_at}
use Rattle.avr_decoder.specs.declared.op.Op.{Op}
use Rattle.avr_decoder.specs.declared.op.Op.TheVariants as op
use Rattle.avr_decoder.specs.Opcodes.{op_at}
use Rattle.avr_decoder.specs.Words.{is_two_words, words_of}
use Rattle.avr_disassembler.specs.Listing.{is_second, instruction_line, listing_of, word_lines}
use Rattle.avr_disassembler.specs.Text as printed
use Rattle.ihex_loader.specs.Flash.{word_at}
use Rattle.asm_words.specs.Text.{is_printed, trim_start, trim_end, without_comment}
use Rattle.asm_words.specs.Line.{Said, Empty, line_of}
use Rattle.asm_text.specs.Source as source
use Rattle.asm_text.specs.Source.{Progress, after, assembled_from, label_in, piece_of, taken}
use Rattle.asm_text.specs.declared.fault.AsmFault.{AsmFault}
use Rattle.asm_text.proofs.Steps.{step_on}
use Rattle.asm_laws.specs.Listed.{kept_word, listed_words, listing_end}
use Rattle.asm_laws.specs.Printed.{Labels, code, one_word, two_words, without_ignored, words_at}
use Rattle.asm_laws.proofs.Cut.{is_kept}
use Rattle.asm_laws.proofs.Bounds.{all_show}
use Rattle.asm_laws.proofs.Lines.{kept_with}
use Rattle.asm_laws.proofs.Doubles.{first_same}
use Rattle.asm_laws.proofs.Pieces.{line_code, code_piece, width_at}

-- an instruction of one word is neither JMP nor CALL
no_ignored : (o : Op) (w : ℕ) → (words_of o == 2) ≡ false → without_ignored o w ≡ w
no_ignored (op.Jmp k) w h = absurd (cc)
no_ignored (op.Call k) w h = absurd (cc)
no_ignored _ w h = refl

pub first_kept : (w : ℕ) → is_two_words w ≡ false → without_ignored (op_at w 0) w ≡ w
unfolding is_two_words
first_kept w h = no_ignored (op_at w 0) w h

empty_line : line_of [] ≡ Empty
unfolding line_of trim_start trim_end without_comment
empty_line = refl

kept_no_lf : (c : ℕ) → is_kept c ≡ true → (c == 10) ≡ false
kept_no_lf c h =
    let p = (and_parts (is_printed c) (not (c == 58) && not (c == 59)) h).0 in
    grind (arith, nat_tests)

no_lf : (xs : List ℕ) → list_all is_kept xs ≡ true → All (λ c. (c == 10) ≡ false) xs
no_lf xs h k d low = elim (cases_Bool (is_kept (get_or xs k d))) [
  | inl is ↦ kept_no_lf (get_or xs k d) is
  | inr other ↦ absurd (both_ways (list_all is_kept xs) (list_all_at is_kept xs k d low other) h)
]

-- what is done up to an address, with these words
abbrev ok_progress : ℕ → List ℕ → Result Progress AsmFault
ok_progress at words = Ok (record { at = at; far = None; words = words })

module _ (word : ℕ → ℕ) (small : (pc : ℕ) → word pc < 65536) where
  -- what is done when the first words are assembled up to an address
  abbrev words_to : ℕ → List ℕ
  words_to n = map (kept_word word) (range_with_len 0 n)

  abbrev done : ℕ → Progress
  done n = record { at = n; far = None; words = words_to n }

  abbrev text : ℕ → ℕ → List ℕ
  text pc n = flat_map (word_lines word) (range_with_len pc n)

  abbrev lines : ℕ → ℕ → List Said
  lines pc n = source.lines_of (text pc n)

  pub next_second : (pc : ℕ) → is_second word (pc + 1) ≡ (not (is_second word pc) && is_two_words (word pc))
  unfolding is_second
  next_second pc = rw add-one refl

  -- one more word, and two more
  pub first_word : (pc : ℕ) → is_second word pc ≡ false → kept_word word pc ≡ without_ignored (op_at (word pc) 0) (word pc)
  first_word pc first = ap (λ b. if b then word pc else without_ignored (op_at (word pc) 0) (word pc)) first

  pub second_word : (pc : ℕ) → is_second word pc ≡ true → kept_word word pc ≡ word pc
  second_word pc second = ap (λ b. if b then word pc else without_ignored (op_at (word pc) 0) (word pc)) second

  words_more : (pc : ℕ) → words_to (pc + 1) ≡ words_to pc ++ kept_word word pc ∷ []
  words_more pc = map-range_with_len_more (kept_word word) 0 pc pc (omega arith)

  one_more : (pc : ℕ) → is_second word pc ≡ false → is_two_words (word pc) ≡ false → words_to pc ++ source.words_of (Some (one_word (word pc))) ≡ words_to (pc + 1)
  one_more pc first one = ap (λ w. words_to pc ++ w ∷ []) (sym (first_word pc first ∙ first_kept (word pc) one)) ∙ sym (words_more pc)

  two_more : (pc : ℕ) (next : ℕ) → is_second word pc ≡ false → is_two_words (word pc) ≡ true → next ≡ word (pc + 1) → words_to pc ++ source.words_of (Some (two_words (word pc) next)) ≡ words_to (pc + 1 + 1)
  two_more pc next first two e =
      let behind : is_second word (pc + 1) ≡ true = next_second pc ∙ (λ i. not (first i) && two i) in
      let low : without_ignored (op_at (word pc) next) (word pc) ≡ kept_word word pc = first_same (word pc) next (small pc) two ∙ sym (first_word pc first) in
      let high : next ≡ kept_word word (pc + 1) = e ∙ sym (second_word (pc + 1) behind) in
      (λ i. words_to pc ++ low i ∷ high i ∷ [])
      ∙ sym (append_assoc (words_to pc) (kept_word word pc ∷ []) (kept_word word (pc + 1) ∷ []))
      ∙ ap (λ ws. ws ++ kept_word word (pc + 1) ∷ []) (sym (words_more pc))
      ∙ sym (words_more (pc + 1))

  progress_is : (a b : ℕ) (ws : List ℕ) → a ≡ b → ws ≡ words_to b → ok_progress a ws ≡ ok_progress b (words_to b)
  progress_is a b ws e f i = ok_progress (e i) (f i)

  end_is : (pc : ℕ) (t : Bool) → is_second word pc ≡ false → is_two_words (word pc) ≡ t → listing_end word (pc + 1) ≡ (if t then pc + 1 + 1 else pc + 1)
  end_is pc t first e = ap (λ b. if b then pc + 1 + 1 else pc + 1) (next_second pc ∙ (λ i. not (first i) && e i))

  module _ (pc next : ℕ) (first : is_second word pc ≡ false) (second : is_two_words (word pc) ≡ true → next ≡ word (pc + 1)) (high : next < 65536) where
    finish : (t : Bool) → is_two_words (word pc) ≡ t → pc + (if t then 2 else 1) ≤ 65536
        → ok_progress (source.behind pc (code (Some pc) (op_at (word pc) next))) (words_to pc ++ source.words_of (Some (words_at (word pc) next))) ≡ ok_progress (listing_end word (pc + 1)) (words_to (listing_end word (pc + 1)))
    finish true e fits =
        let at_end : min (pc + 2) 65536 ≡ pc + 1 + 1 = omega arith in
        progress_is _ (listing_end word (pc + 1)) _
        (ap (λ k. min (pc + k) 65536) (width_at (word pc) next ∙ ap (λ b. if b then 2 else 1) e) ∙ at_end ∙ sym (end_is pc true first e))
        (ap (λ b. words_to pc ++ source.words_of (Some (if b then two_words (word pc) next else one_word (word pc)))) e ∙ two_more pc next first e (second e) ∙ ap words_to (sym (end_is pc true first e)))
    finish false e fits =
        let at_end : min (pc + 1) 65536 ≡ pc + 1 = omega arith in
        progress_is _ (listing_end word (pc + 1)) _
        (ap (λ k. min (pc + k) 65536) (width_at (word pc) next ∙ ap (λ b. if b then 2 else 1) e) ∙ at_end ∙ sym (end_is pc false first e))
        (ap (λ b. words_to pc ++ source.words_of (Some (if b then two_words (word pc) next else one_word (word pc)))) e ∙ one_more pc first e ∙ ap words_to (sym (end_is pc false first e)))

    -- the line of an instruction takes what is done from its address on to the next instruction
    step : (number : ℕ) (labels : Labels) → pc + (if is_two_words (word pc) then 2 else 1) ≤ 65536 → taken labels number (done pc) (line_of (printed.line_of pc (op_at (word pc) next))) ≡ Ok (done (listing_end word (pc + 1)))
    step number labels fits =
        let o = op_at (word pc) next in
        ap (taken labels number (done pc)) (line_code (word pc) next pc (small pc) high fits)
        ∙ ap (after (done pc) (code (Some pc) o) number) (code_piece (word pc) next pc (small pc) high fits labels number)
        ∙ finish (is_two_words (word pc)) refl fits

  -- behind the last line feed there is nothing
  ends : (labels : Labels) (number n : ℕ) → assembled_from labels number (done n) (source.lines_of []) ≡ Ok (words_to n)
  unfolding assembled_from piece_of
  ends labels number n =
      ap (λ l. assembled_from labels number (done n) (l ∷ [])) empty_line
      ∙ step_on labels number (done n) (record { at = source.behind n Empty; far = None; words = words_to n ++ [] }) Empty [] refl
      ∙ ap (λ ws. Ok ws) (append-nil (words_to n))

  line_at : ℕ → List ℕ
  line_at pc = printed.line_of pc (op_at (word pc) (word ((pc + 1) % 65536)))

  lines_first : (pc n : ℕ) → pc < 65536 → is_second word pc ≡ false → lines pc (suc n) ≡ line_of (line_at pc) ∷ lines (pc + 1) n
  unfolding line_at word_lines instruction_line
  lines_first pc n low first =
      let line = line_at pc in
      let kept = kept_with (op_at (word pc) (word ((pc + 1) % 65536))) (all_show (word pc) (word ((pc + 1) % 65536)) (small pc) (small ((pc + 1) % 65536))) pc low in
      ap (λ b. source.lines_of ((if b then [] else instruction_line word pc) ++ text (pc + 1) n)) first
      ∙ ap source.lines_of (append_assoc line (codes "\n") (text (pc + 1) n))
      ∙ ap (map line_of) (slice_split_at (λ b. b == 10) line 10 (text (pc + 1) n) (no_lf line kept) refl)

  lines_second : (pc n : ℕ) → is_second word pc ≡ true → lines pc (suc n) ≡ lines (pc + 1) n
  unfolding word_lines
  lines_second pc n second = ap (λ b. source.lines_of ((if b then [] else instruction_line word pc) ++ text (pc + 1) n)) second

  -- an instruction of two words has room for both
  pub room : (pc end : ℕ) (t : Bool) → pc < end → end ≤ 65536 → (end ≡ 65536 → is_second word end ≡ false) → is_second word pc ≡ false → is_two_words (word pc) ≡ t → pc + (if t then 2 else 1) ≤ 65536
  room pc end false low high wraps first e = omega arith
  room pc end true low high wraps first e = elim (cases_lt (pc + 1) 65536) [
    | inl within ↦ omega arith
    | inr last ↦
        let whole : end ≡ 65536 = omega arith in
        let here : end ≡ pc + 1 = omega arith in
        absurd (both_ways (is_second word (pc + 1)) (ap (is_second word) (sym here) ∙ wraps whole) (next_second pc ∙ (λ i. not (first i) && e i)))
  ]

  next_word : (pc : ℕ) (t : Bool) → is_two_words (word pc) ≡ t → pc + (if t then 2 else 1) ≤ 65536 → is_two_words (word pc) ≡ true → word ((pc + 1) % 65536) ≡ word (pc + 1)
  next_word pc true e fits two =
      let same : (pc + 1) % 65536 ≡ pc + 1 = omega arith in
      ap word same
  next_word pc false e fits two = absurd (cc)

  step_here : (pc number : ℕ) (labels : Labels) → is_second word pc ≡ false → pc + (if is_two_words (word pc) then 2 else 1) ≤ 65536
      → taken labels number (done pc) (line_of (line_at pc)) ≡ Ok (done (listing_end word (pc + 1)))
  unfolding line_at
  step_here pc number labels first fits =
      step pc (word ((pc + 1) % 65536)) first (next_word pc (is_two_words (word pc)) refl fits) (small ((pc + 1) % 65536)) number labels fits

  all_lines : (n pc end number : ℕ) (labels : Labels) → pc + n ≡ end → end ≤ 65536 → (end ≡ 65536 → is_second word end ≡ false)
      → assembled_from labels number (done (listing_end word pc)) (lines pc n) ≡ Ok (words_to (listing_end word end))
  all_lines zero pc end number labels e high wraps =
      let same : pc ≡ end = omega arith in
      ends labels number (listing_end word pc) ∙ ap (λ k. Ok (words_to (listing_end word k))) same
  all_lines (suc n) pc end number labels e high wraps = elim (cases_Bool (is_second word pc)) [
    | inl second ↦
        let here : listing_end word pc ≡ pc + 1 = ap (λ b. if b then pc + 1 else pc) second in
        let there : listing_end word (pc + 1) ≡ pc + 1 = ap (λ b. if b then pc + 1 + 1 else pc + 1) (next_second pc ∙ ap (λ b. not b && is_two_words (word pc)) second) in
        (λ i. assembled_from labels number (done ((here ∙ sym there) i)) (lines_second pc n second i)) ∙ all_lines n (pc + 1) end number labels (omega arith) high wraps
    | inr first ↦
        let here : listing_end word pc ≡ pc = ap (λ b. if b then pc + 1 else pc) first in
        let low : pc < end = omega arith in
        let fits : pc + (if is_two_words (word pc) then 2 else 1) ≤ 65536 = room pc end (is_two_words (word pc)) low high wraps first refl in
        (λ i. assembled_from labels number (done (here i)) (lines_first pc n (omega arith) first i))
        ∙ step_on labels number (done pc) (done (listing_end word (pc + 1))) (line_of (line_at pc)) (lines (pc + 1) n)
        (step_here pc number labels first fits)
        ∙ all_lines n (pc + 1) end (number + 1) labels (omega arith) high wraps
  ]

  pub within : (count : ℕ) (second : Bool) → is_second word count ≡ second → (if second then count + 1 else count) ≤ 65536 → (count ≤ 65536) × (count ≡ 65536 → is_second word count ≡ false)
  within count true e h = (omega arith, λ last. absurd (omega arith))
  within count false e h = (h, λ last. e)

  listed : (count : ℕ) → listing_end word count ≤ 65536 → source.assembled (listing_of word count) ≡ Ok (listed_words word count)
  unfolding source.assembled is_second
  listed count h =
      let low = within count (is_second word count) refl h in
      all_lines count 0 count 0 (label_in 0 0 (lines 0 count)) (omega arith) low.0 low.1

byte_small : (flash : List ℕ) (i : ℕ) → All (λ b. b < 256) flash → slice_index flash i < 256
byte_small flash i h = elim (cases_lt i (length flash)) [
  | inl low ↦ h i 0 low
  | inr past ↦ rw get_or_past (omega arith)
]

pub word_small : (flash : List ℕ) → All (λ b. b < 256) flash → (at : ℕ) → word_at flash at < 65536
word_small flash h at =
    let low = byte_small flash (2 * at) h in
    let high = byte_small flash (2 * at + 1) h in
    omega arith

pub flash_listed : (flash : List ℕ) (count : ℕ) → All (λ b. b < 256) flash → listing_end (word_at flash) count ≤ 65536 → source.assembled (listing_of (word_at flash) count) ≡ Ok (listed_words (word_at flash) count)
flash_listed flash count h = listed (word_at flash) (word_small flash h) count
