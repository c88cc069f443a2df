-- Which words begin an instruction of two words, by fields.
use Rattle.std.proofs.Common.{◌≡◌, ℕ, ◌/◌, ◌%◌, ◌<◌, ◌==◌, ◌&&◌, ◌||◌, Bool, true, false, refl, sym, ap, ◌∙◌, ◌++◌, ◌≢◌, arith, inl, inr}
use Rattle.std.proofs.lemmas.Bool.{cases_lt, false≢true, ne_eqb}
use Rattle.avr_base.proofs.Computed.{all_from, all_from-at}
use Rattle.avr_decoder.specs.Opcodes.{bits, matches_any}
use Rattle.avr_decoder.specs.Words.{is_two_words}
use Rattle.avr_decoder.proofs.Rows.{bits-split}
use Rattle.avr_decoder.proofs.Long.{by_patterns, is_two_words-by_patterns, two_word_patterns}

abbrev same : Bool → Bool → Bool
same true c = c
same false true = false
same false false = true

same-true : (b c : Bool) → same b c ≡ true → b ≡ c
same-true true true h = refl
same-true true false h = absurd (false≢true h)
same-true false true h = absurd (false≢true h)
same-true false false h = refl

abbrev pub by_fields : ℕ → Bool
by_fields w = (w / 1024 == 36 && w % 16 == 0) || (w / 512 == 74 && w / 4 % 4 == 3)

abbrev agrees : ℕ → Bool
agrees w = same (by_patterns w) (by_fields w)

-- the words that may take a second one: 0x9000 to 0x95FF
inner : all_from agrees 36864 1536 ≡ true
inner = refl

-- no word with these seven upper bits takes a second one
abbrev misses : ℕ → ℕ → Bool
misses w v = elim (matches_any two_word_patterns (bits 7 v ++ bits 9 w)) [ true ↦ false | false ↦ true ]

below : (w : ℕ) → all_from (misses w) 0 72 ≡ true
below w = refl

above : (w : ℕ) → all_from (misses w) 75 53 ≡ true
above w = refl

missed : (b : Bool) → elim b [ true ↦ false | false ↦ true ] ≡ true → b ≡ false
missed true h = absurd (false≢true h)
missed false h = refl

outer : (w : ℕ) → misses w (w / 512) ≡ true → by_patterns w ≡ false
outer w h = ap (matches_any two_word_patterns) (bits-split 7 9 w) ∙ missed (matches_any two_word_patterns (bits 7 (w / 512) ++ bits 9 w)) h

no_fields : (w : ℕ) → w / 1024 ≢ 36 → w / 512 ≢ 74 → by_fields w ≡ false
no_fields w e f = rw (ne_eqb (w / 1024) 36 e, ne_eqb (w / 512) 74 f)

patterns-by_fields : (w : ℕ) → w < 65536 → by_patterns w ≡ by_fields w
patterns-by_fields w h =
    elim (cases_lt (w / 512) 72) [
      | inl low ↦ outer w (all_from-at (misses w) 0 72 (w / 512) (below w) (omega arith) low) ∙ sym (no_fields w (λ e. absurd (omega arith)) (λ e. absurd (omega arith)))
      | inr from ↦ elim (cases_lt (w / 512) 75) [
        | inl in_ ↦ same-true (by_patterns w) (by_fields w) (all_from-at agrees 36864 1536 w inner (omega arith) (omega arith))
        | inr high ↦ outer w (all_from-at (misses w) 75 53 (w / 512) (above w) high (omega arith)) ∙ sym (no_fields w (λ e. absurd (omega arith)) (λ e. absurd (omega arith)))
      ]
    ]

pub is_two_words-by_fields : (w : ℕ) → w < 65536 → is_two_words w ≡ by_fields w
is_two_words-by_fields w h = is_two_words-by_patterns w ∙ patterns-by_fields w h

pub ruleset widths = (is_two_words-by_fields)
