-- The words that come back of a listing have the same listing.
use Rattle.std.proofs.Common.{◌≡◌, ℕ, zero, suc, ◌+◌, ◌%◌, ◌<◌, ◌≤◌, ◌==◌, ◌&&◌, not, if◌then◌else◌, Bool, true, false, List, [], ◌∷◌, ◌++◌, map, All, refl, sym, ap, ◌∙◌, inl, inr, arith}
use Rattle.std.specs.Prelude.{codes}
use Rattle.std.specs.List.{flat_map, range_with_len, filter}
use Rattle.std.proofs.lemmas.Bool.{cases_Bool, cond_both}
use Rattle.avr_decoder.specs.declared.op.Op.{Op}
use Rattle.avr_decoder.specs.declared.op.Op.TheVariants as op
use Rattle.avr_decoder.specs.Opcodes.{Row, bits, matches, matches_any, op_at, rows_at, spelled, table, undefined}
use Rattle.avr_decoder.specs.Words.{is_two_words, words_of}
use Rattle.avr_disassembler.specs.Text as printed
use Rattle.avr_disassembler.specs.Listing.{is_second, instruction_line, listing_of, word_lines}
use Rattle.ihex_loader.specs.Flash.{word_at}
use Rattle.asm_laws.specs.Listed.{kept_word, listing_end}
use Rattle.asm_laws.proofs.Bounds.{first}
use Rattle.asm_laws.proofs.Doubles.{first_same, same_op}
use Rattle.asm_laws.proofs.Listed.{first_kept, first_word, next_second, room, second_word, within, word_small}

-- an instruction with another second word
abbrev with_second : Op → ℕ → Op
with_second (op.Lds d k) next = op.Lds d next
with_second (op.Sts k r) next = op.Sts next r
with_second (op.Jmp k) next = op.Jmp next
with_second (op.Call k) next = op.Call next
with_second o next = o

short_same : (o : Op) (next : ℕ) → (words_of o == 2) ≡ false → with_second o next ≡ o
short_same (op.Lds d k) next h = absurd (cc)
short_same (op.Sts k r) next h = absurd (cc)
short_same (op.Jmp k) next h = absurd (cc)
short_same (op.Call k) next h = absurd (cc)
short_same _ next h = refl

-- all rows at once
abbrev RowsWith : (ℕ → ℕ) → ℕ → ℕ → List Row → Type 0
RowsWith n a b rows = map (λ row. with_second (row.made n a) b) rows ≡ map (λ row. row.made n b) rows

table_with : (n : ℕ → ℕ) (a b : ℕ) → RowsWith n a b table
table_with n a b = refl

abbrev head_or : Op → List Op → Op
head_or o [] = o
head_or o (x ∷ xs) = x

abbrev behind : List Op → List Op
behind [] = []
behind (x ∷ xs) = xs

module _ (word a b : ℕ) where
  first_with : (rows : List Row) → ((n : ℕ → ℕ) → RowsWith n a b rows) → (p : Row → Bool) → with_second (first word a (filter p rows)) b ≡ first word b (filter p rows)
  first_with [] all p = refl
  first_with (row ∷ rows) all p =
      cond_both (p row) (row ∷ filter p rows) (filter p rows) (λ rs. with_second (first word a rs) b ≡ first word b rs)
      (λ _. ap (head_or op.Nop) (all (λ letter. spelled letter row.pattern word)))
      (λ _. first_with rows (λ n. ap behind (all n)) p)

  either_with : (c : Bool) (x y z : Op) → with_second x b ≡ x → with_second y b ≡ z → with_second (elim c [ true ↦ x | false ↦ y ]) b ≡ elim c [ true ↦ x | false ↦ z ]
  either_with true x y z e f = e
  either_with false x y z e f = f

  op_with : with_second (op_at word a) b ≡ op_at word b
  unfolding op_at rows_at
  op_with =
      either_with (matches_any undefined (bits 16 word)) (op.Undefined word) (first word a (rows_at word)) (first word b (rows_at word)) refl
      (first_with table (λ n. table_with n a b) (λ row. matches row.pattern (bits 16 word)))

-- the second word changes nothing of an instruction of one word
short_op : (word a b : ℕ) → is_two_words word ≡ false → op_at word a ≡ op_at word b
unfolding is_two_words
short_op word a b one =
    let at : (c : ℕ) → op_at word 0 ≡ op_at word c = λ c. sym (short_same (op_at word 0) c one) ∙ op_with word 0 c in
    sym (at a) ∙ at b

module _ (word : ℕ → ℕ) (small : (at : ℕ) → word at < 65536) where
  kept : ℕ → ℕ
  kept = kept_word word

  two_kept : (pc : ℕ) (t : Bool) → is_second word pc ≡ false → is_two_words (word pc) ≡ t → is_two_words (kept pc) ≡ is_two_words (word pc)
  unfolding kept is_two_words
  two_kept pc true fst e = ap is_two_words (first_word word small pc fst) ∙ ap (λ o. words_of o == 2) (same_op (word pc) 0 (small pc) e)
  two_kept pc false fst e = ap is_two_words (first_word word small pc fst ∙ first_kept (word pc) e)

  second_kept : (pc : ℕ) → is_second kept pc ≡ is_second word pc
  unfolding is_second
  second_kept zero = refl
  second_kept (suc pc) = elim (cases_Bool (is_second word pc)) [
    | inl second ↦ ap (λ b. not b && is_two_words (kept pc)) (second_kept pc ∙ second) ∙ ap (λ b. not b && is_two_words (word pc)) (sym second)
    | inr fst ↦ ap (λ b. not b && is_two_words (kept pc)) (second_kept pc) ∙ ap (λ b. not (is_second word pc) && b) (two_kept pc (is_two_words (word pc)) fst refl)
  ]

  op_kept : (pc : ℕ) (t : Bool) → is_second word pc ≡ false → is_two_words (word pc) ≡ t → pc + (if t then 2 else 1) ≤ 65536 → op_at (kept pc) (kept ((pc + 1) % 65536)) ≡ op_at (word pc) (word ((pc + 1) % 65536))
  unfolding kept
  op_kept pc true fst e fits =
      let place : (pc + 1) % 65536 ≡ pc + 1 = omega arith in
      let second : is_second word (pc + 1) ≡ true = next_second word small pc ∙ (λ i. not (fst i) && e i) in
      let same : kept ((pc + 1) % 65536) ≡ word ((pc + 1) % 65536) = ap kept place ∙ second_word word small (pc + 1) second ∙ ap word (sym place) in
      let next = word ((pc + 1) % 65536) in
      (λ i. op_at ((first_word word small pc fst ∙ sym (first_same (word pc) next (small pc) e)) i) (same i)) ∙ same_op (word pc) next (small pc) e
  op_kept pc false fst e fits =
      ap (λ w. op_at w (kept ((pc + 1) % 65536))) (first_word word small pc fst ∙ first_kept (word pc) e) ∙ short_op (word pc) _ _ e

  line_kept : (pc : ℕ) (s : Bool) → is_second word pc ≡ s → (is_second word pc ≡ false → pc + (if is_two_words (word pc) then 2 else 1) ≤ 65536) → word_lines kept pc ≡ word_lines word pc
  unfolding word_lines instruction_line
  line_kept pc true e fits =
      ap (λ b. if b then [] else instruction_line kept pc) (second_kept pc ∙ e) ∙ ap (λ b. if b then [] else instruction_line word pc) (sym e)
  line_kept pc false e fits =
      ap (λ b. if b then [] else instruction_line kept pc) (second_kept pc ∙ e)
      ∙ ap (λ o. printed.line_of pc o ++ codes "\n") (op_kept pc (is_two_words (word pc)) e refl (fits e))
      ∙ ap (λ b. if b then [] else instruction_line word pc) (sym e)

  all_kept : (n pc end : ℕ) → pc + n ≡ end → end ≤ 65536 → (end ≡ 65536 → is_second word end ≡ false) → flat_map (word_lines kept) (range_with_len pc n) ≡ flat_map (word_lines word) (range_with_len pc n)
  all_kept zero pc end e high wraps = refl
  all_kept (suc n) pc end e high wraps =
      let low : pc < end = omega arith in
      let line = line_kept pc (is_second word pc) refl (λ fst. room word small pc end (is_two_words (word pc)) low high wraps fst refl) in
      λ i. line i ++ all_kept n (pc + 1) end (omega arith) high wraps i

  same_listing : (count : ℕ) → listing_end word count ≤ 65536 → listing_of kept count ≡ listing_of word count
  same_listing count h =
      let low = within word small count (is_second word count) refl h in
      all_kept count 0 count (omega arith) low.0 low.1

pub flash_same : (flash : List ℕ) (count : ℕ) → All (λ b. b < 256) flash → listing_end (word_at flash) count ≤ 65536 → listing_of (kept_word (word_at flash)) count ≡ listing_of (word_at flash) count
unfolding kept
flash_same flash count h = same_listing (word_at flash) (word_small flash h) count
