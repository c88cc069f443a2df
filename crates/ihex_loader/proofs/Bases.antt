-- The base behind some lines is what the last of them that sets it says.
use Rattle.std.proofs.Common.{◌≡◌, ℕ, zero, suc, ◌<◌, ◌≤◌, Some, List, length, get_or, take, slice_get, take-suc, refl, sym, ◌∙◌, inl, inr, arith}
use Rattle.std.proofs.lemmas.Bool.{cases_eq}
use Rattle.std.proofs.lemmas.Option.{slice_get-get_or}
use Rattle.ihex_loader.specs.Line.{Line, Blank, Faulty, Record}
use Rattle.ihex_loader.specs.Image.{base_after, bases, last_or}
use Rattle.ihex_loader.specs.Accepted.{IsBase, SetsBase, Segment, Linear}
use Rattle.ihex_loader.proofs.Lines.{base_after-more}
use Rattle.ihex_loader.proofs.Good.{≢-eqb-false}
use Rattle.ihex_loader.proofs.LastSaid.{SaysOne, last_zero, last_same, last_new, last_unique}

-- what the line at n is
abbrev pub line_at : List Line → ℕ → Line
line_at lines n = get_or lines n Blank

pub there : (lines : List Line) (n : ℕ) → n < length lines → slice_get lines n ≡ Some (line_at lines n)
there lines n lt = slice_get-get_or lines n Blank lt

pub sets_one : (lines : List Line) → SaysOne (SetsBase lines)
sets_one lines n x y (Segment o b is e) (Segment o' b' is' e') = cc
sets_one lines n x y (Segment o b is e) (Linear o' b' is' e') = absurd (kinds 2 4 o o' b b' (sym is ∙ is') (λ k. omega arith))
  where
    kinds : (k j o p : ℕ) (b c : List ℕ) → Some (Record k o b) ≡ Some (Record j p c) → (k ≡ j → ⊥) → ⊥
    kinds k j o p b c e ne = ne cc
sets_one lines n x y (Linear o b is e) (Segment o' b' is' e') = absurd (kinds 4 2 o o' b b' (sym is ∙ is') (λ k. omega arith))
  where
    kinds : (k j o p : ℕ) (b c : List ℕ) → Some (Record k o b) ≡ Some (Record j p c) → (k ≡ j → ⊥) → ⊥
    kinds k j o p b c e ne = ne cc
sets_one lines n x y (Linear o b is e) (Linear o' b' is' e') = cc

pub base_unique : (lines : List Line) (n b c : ℕ) → IsBase lines n b → IsBase lines n c → b ≡ c
base_unique lines n b c h g = last_unique (SetsBase lines) (sets_one lines) n 0 b c h g

-- two readings of one line
pub same_line : (lines : List Line) (n : ℕ) (l m : Line) → slice_get lines n ≡ Some l → slice_get lines n ≡ Some m → l ≡ m
same_line lines n l m e f = cc

pub record_kind : (k j o p : ℕ) (b c : List ℕ) → Record k o b ≡ Record j p c → k ≡ j
record_kind k j o p b c e = cc

-- a line of neither type sets no base
sets_none : (lines : List Line) (n : ℕ) (line : Line) → slice_get lines n ≡ Some line
    → ((o : ℕ) (b : List ℕ) → line ≡ Record 2 o b → ⊥) → ((o : ℕ) (b : List ℕ) → line ≡ Record 4 o b → ⊥) → (x : ℕ) → SetsBase lines n x → ⊥
sets_none lines n line e no2 no4 x (Segment o b is v) = no2 o b (same_line lines n _ _ e is)
sets_none lines n line e no2 no4 x (Linear o b is v) = no4 o b (same_line lines n _ _ e is)

base_step : (lines : List Line) (n u : ℕ) (line : Line) → slice_get lines n ≡ Some line → IsBase lines n u → IsBase lines (suc n) (last_or u (bases line))
base_step lines n u Blank e last = last_same (SetsBase lines) n 0 u u last (sets_none lines n Blank e (λ o b c. cc) (λ o b c. cc)) refl
base_step lines n u (Faulty f) e last = last_same (SetsBase lines) n 0 u u last (sets_none lines n (Faulty f) e (λ o b c. cc) (λ o b c. cc)) refl
base_step lines n u (Record k offset bytes) e last =
    elim (cases_eq k 2) [
      | inl two ↦ rw two (last_new (SetsBase lines) n 0 _ (Segment offset bytes (rw two at e) refl))
      | inr not2 ↦ elim (cases_eq k 4) [
        | inl four ↦ rw four (last_new (SetsBase lines) n 0 _ (Linear offset bytes (rw four at e) refl))
        | inr not4 ↦
            rw (≢-eqb-false k 2 not2, ≢-eqb-false k 4 not4) (last_same (SetsBase lines) n 0 u u last
            (sets_none lines n (Record k offset bytes) e (λ o b c. not2 (record_kind k 2 _ _ _ _ c)) (λ o b c. not4 (record_kind k 4 _ _ _ _ c))) refl)
      ]
    ]

pub base_is_last : (lines : List Line) (n : ℕ) → n ≤ length lines → IsBase lines n (base_after (take n lines))
unfolding base_after
base_is_last lines zero h = last_zero (SetsBase lines) 0 0 refl
base_is_last lines (suc n) h =
    rw (take-suc lines n Blank (omega arith), base_after-more (take n lines) (line_at lines n))
    (base_step lines n (base_after (take n lines)) (line_at lines n) (there lines n (omega arith)) (base_is_last lines n (omega arith)))
