-- The lines of a listing that are still to come.
use Rattle.std.proofs.Common.{◌≡◌, ℕ, suc, ◌+◌, ◌-◌, ◌<◌, ◌≤◌, ◌&&◌, Bool, true, false, not, if◌then◌else◌, List, [], ◌++◌, inl, inr, refl, sym, ap, ◌∙◌, arith, add-one}
use Rattle.std.proofs.lemmas.Bool.{cases_lt}
use Rattle.std.specs.List.{flat_map, range_with_len}
use Rattle.avr_decoder.specs.Words.{is_two_words}
use Rattle.avr_disassembler.specs.Listing.{instruction_line, is_second, word_lines}
use Rattle.ihex_loader.specs.Flash.{Image, word_at}
use Rattle.commands.specs.Listing.{listing, words_used}

-- what the words from pc on add, up to word n
abbrev pub lines_left : (ℕ → ℕ) → ℕ → ℕ → List ℕ
lines_left word n pc = flat_map (word_lines word) (range_with_len pc (n - pc))

pub lines_left_none : (word : ℕ → ℕ) (n pc : ℕ) → n ≤ pc → lines_left word n pc ≡ []
lines_left_none word n pc h =
    let e : n - pc ≡ 0 = omega arith in
    ap (λ k. flat_map (word_lines word) (range_with_len pc k)) e

lines_left_word : (word : ℕ → ℕ) (n pc : ℕ) → pc < n → lines_left word n pc ≡ word_lines word pc ++ lines_left word n (pc + 1)
lines_left_word word n pc h =
    let e : n - pc ≡ suc (n - (pc + 1)) = omega arith in
    ap (λ k. flat_map (word_lines word) (range_with_len pc k)) e

-- the lines of an image from its first word on
pub lines_left_all : (image : Image) → listing image ≡ lines_left (word_at image.bytes) (words_used image) 0
lines_left_all image =
    let e : words_used image ≡ words_used image - 0 = omega arith in
    ap (λ k. flat_map (word_lines (word_at image.bytes)) (range_with_len 0 k)) e

word_lines_first : (word : ℕ → ℕ) (pc : ℕ) → is_second word pc ≡ false → word_lines word pc ≡ instruction_line word pc
unfolding word_lines
word_lines_first word pc e = rw e refl

word_lines_second : (word : ℕ → ℕ) (pc : ℕ) → is_second word pc ≡ true → word_lines word pc ≡ []
unfolding word_lines
word_lines_second word pc e = rw e refl

second_after : (word : ℕ → ℕ) (pc : ℕ) (s t : Bool) → is_second word pc ≡ s → is_two_words (word pc) ≡ t → is_second word (pc + 1) ≡ not s && t
unfolding is_second
second_after word pc s t e f = rw (add-one, e, f) refl

-- a second word adds nothing
left_behind_second : (word : ℕ → ℕ) (n pc : ℕ) → is_second word pc ≡ true → lines_left word n pc ≡ lines_left word n (pc + 1)
left_behind_second word n pc e = elim (cases_lt pc n) [
  | inl below ↦ lines_left_word word n pc below ∙ ap (λ x. x ++ lines_left word n (pc + 1)) (word_lines_second word pc e)
  | inr past ↦ lines_left_none word n pc past ∙ sym (lines_left_none word n (pc + 1) (omega arith))
]

step_by : (word : ℕ → ℕ) (n pc w : ℕ) (t : Bool) → is_two_words (word pc) ≡ t → w ≡ (if t then 2 else 1) → is_second word pc ≡ false
    → (lines_left word n (pc + 1) ≡ lines_left word n (pc + w)) × (is_second word (pc + w) ≡ false)
step_by word n pc w true t e first =
    let second : is_second word (pc + 1) ≡ true = second_after word pc false true first t in
    let two : pc + 1 + 1 ≡ pc + w = omega arith in (
      left_behind_second word n (pc + 1) second ∙ ap (lines_left word n) two,
      ap (is_second word) (sym two) ∙ second_after word (pc + 1) true (is_two_words (word (pc + 1))) second refl,
    )
step_by word n pc w false t e first =
    let one : pc + 1 ≡ pc + w = omega arith in
    (ap (lines_left word n) one, ap (is_second word) (sym one) ∙ second_after word pc false false first t)

-- behind an instruction come the lines from the next one on
pub lines_left_step : (word : ℕ → ℕ) (n pc w : ℕ) → pc < n → is_second word pc ≡ false → w ≡ (if is_two_words (word pc) then 2 else 1)
    → lines_left word n pc ≡ instruction_line word pc ++ lines_left word n (pc + w)
lines_left_step word n pc w h first e =
    let s = step_by word n pc w (is_two_words (word pc)) refl e first in
    lines_left_word word n pc h
    ∙ (ap (λ x. x ++ lines_left word n (pc + 1)) (word_lines_first word pc first) ∙ ap (λ x. instruction_line word pc ++ x) s.0)

pub first_step : (word : ℕ → ℕ) (pc w : ℕ) → is_second word pc ≡ false → w ≡ (if is_two_words (word pc) then 2 else 1) → is_second word (pc + w) ≡ false
first_step word pc w first e = (step_by word 0 pc w (is_two_words (word pc)) refl e first).1

pub two_at_most : (t : Bool) (w : ℕ) → w ≡ (if t then 2 else 1) → w ≤ 2
two_at_most true w e = omega arith
two_at_most false w e = omega arith

-- word 0 is no second word
pub word_0_first : (word : ℕ → ℕ) → is_second word 0 ≡ false
unfolding is_second
word_0_first word = refl
