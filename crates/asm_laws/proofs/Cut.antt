-- How a line of printed bytes is cut: its comment and blanks, its address, its mnemonic and its operands.
use Rattle.std.proofs.Common.{◌≡◌, ℕ, suc, ◌-◌, ◌<◌, ◌==◌, ◌&&◌, not, if◌then◌else◌, Bool, true, false, List, [], ◌∷◌, ◌++◌, length, take, position, is_some, Some, None, refl, sym, ap, ◌∙◌, append-nil, one-add, arith}
use Rattle.std.specs.Prelude.{nat_lt, slice_index}
use Rattle.std.specs.List.{list_all, prefix_len}
use Rattle.std.proofs.Math.Seq.{take-append_seam, drop-append_seam, drop-append-add, take-length}
use Rattle.std.proofs.lemmas.Bool.{and_parts, and_from, not-true, not_from_true, not_from_false, cond-true, cond-false, le-ltb, lt-ltb, ne_eqb}
use Rattle.std.proofs.lemmas.Bool.Decides.{nat_tests}
use Rattle.std.proofs.lemmas.List.{length-append}
use Rattle.std.proofs.lemmas.List.Folds.{list_all-append}
use Rattle.asm_words.specs.Text.{is_blank, is_printed, without_cr, without_comment, trim_start, trim_end, body_of, from, up_to}
use Rattle.asm_words.specs.Line.{Zero, One, Two, Many, pair_of, texts_behind, texts_of, instruction_of, instruction_at}

-- a visible byte that separates nothing: no comma, 44, no colon, 58, and no semicolon, 59
abbrev pub is_solid : ℕ → Bool
is_solid c = is_printed c && (not (is_blank c) && (not (c == 44) && (not (c == 58) && not (c == 59))))

-- a byte that may stand in a printed line: a solid one, a blank or a comma
abbrev pub is_kept : ℕ → Bool
is_kept c = is_printed c && (not (c == 58) && not (c == 59))

-- a text of solid bytes, one at least
abbrev pub is_solid_text : List ℕ → Bool
is_solid_text [] = false
is_solid_text (c ∷ cs) = is_solid c && list_all is_solid cs

pub weaker : (p q : ℕ → Bool) → ((c : ℕ) → p c ≡ true → q c ≡ true) → (xs : List ℕ) → list_all p xs ≡ true → list_all q xs ≡ true
weaker p q f [] h = refl
weaker p q f (x ∷ xs) h =
    let parts = and_parts (p x) (list_all p xs) h in
    and_from (q x) (list_all q xs) (f x parts.0) (weaker p q f xs parts.1)

pub appended : (p : ℕ → Bool) (xs ys : List ℕ) → list_all p xs ≡ true → list_all p ys ≡ true → list_all p (xs ++ ys) ≡ true
appended p xs ys h k = list_all-append p xs ys ∙ and_from (list_all p xs) (list_all p ys) h k

module _ (c : ℕ) (h : is_solid c ≡ true) where
  printed : is_printed c ≡ true
  printed = (and_parts _ _ h).0

  pub visible : is_blank c ≡ false
  visible = not-true _ (and_parts _ _ (and_parts _ _ h).1).0

  no_comma : not (c == 44) ≡ true
  no_comma = (and_parts _ _ (and_parts _ _ (and_parts _ _ h).1).1).0

  pub kept : is_kept c ≡ true
  kept =
      let one = and_parts (is_printed c) (not (is_blank c) && (not (c == 44) && (not (c == 58) && not (c == 59)))) h in
      let two = and_parts (not (is_blank c)) (not (c == 44) && (not (c == 58) && not (c == 59))) one.1 in
      and_from (is_printed c) (not (c == 58) && not (c == 59)) one.0 (and_parts (not (c == 44)) (not (c == 58) && not (c == 59)) two.1).1

pub solid_all : (xs : List ℕ) → is_solid_text xs ≡ true → list_all is_solid xs ≡ true
solid_all [] h = refl
solid_all (x ∷ xs) h = h

-- solid bytes before a solid text
pub solid_before : (xs ys : List ℕ) → list_all is_solid xs ≡ true → is_solid_text ys ≡ true → is_solid_text (xs ++ ys) ≡ true
solid_before [] ys h k = k
solid_before (x ∷ xs) ys h k =
    let parts = and_parts (is_solid x) (list_all is_solid xs) h in
    and_from (is_solid x) (list_all is_solid (xs ++ ys)) parts.0 (appended is_solid xs ys parts.1 (solid_all ys k))

-- the first place that passes
prefix_all : (p : ℕ → Bool) (xs : List ℕ) → list_all p xs ≡ true → prefix_len p xs ≡ length xs
prefix_all p [] h = refl
prefix_all p (x ∷ xs) h =
    let parts = and_parts (p x) (list_all p xs) h in
    rw (parts.0, prefix_all p xs parts.1) (one-add (length xs))

prefix_at : (p : ℕ → Bool) (xs : List ℕ) (y : ℕ) (ys : List ℕ) → list_all p xs ≡ true → p y ≡ false → prefix_len p (xs ++ y ∷ ys) ≡ length xs
prefix_at p [] y ys h e = rw e refl
prefix_at p (x ∷ xs) y ys h e =
    let parts = and_parts (p x) (list_all p xs) h in
    rw (parts.0, prefix_at p xs y ys parts.1 e) (one-add (length xs))

longer : (xs : List ℕ) (y : ℕ) (ys : List ℕ) → length xs < length (xs ++ y ∷ ys)
longer xs y ys = omega (arith, length-append xs (y ∷ ys))

pub position_none : (p : ℕ → Bool) (xs : List ℕ) → list_all (λ c. not (p c)) xs ≡ true → position p xs ≡ None
position_none p xs h =
    ap (λ n. if nat_lt n (length xs) then Some n else None) (prefix_all (λ c. not (p c)) xs h)
    ∙ cond-false (nat_lt (length xs) (length xs)) (Some (length xs)) None (le-ltb (length xs) (length xs) (omega arith))

position_at : (p : ℕ → Bool) (xs : List ℕ) (y : ℕ) (ys : List ℕ) → list_all (λ c. not (p c)) xs ≡ true → p y ≡ true → position p (xs ++ y ∷ ys) ≡ Some (length xs)
position_at p xs y ys h e =
    ap (λ n. if nat_lt n (length (xs ++ y ∷ ys)) then Some n else None) (prefix_at (λ c. not (p c)) xs y ys h (not_from_true (p y) e))
    ∙ cond-true (nat_lt (length xs) (length (xs ++ y ∷ ys))) (Some (length xs)) None (lt-ltb (length xs) (length (xs ++ y ∷ ys)) (longer xs y ys))

-- blanks before a text
start_none : (x : ℕ) (xs : List ℕ) → is_blank x ≡ false → trim_start (x ∷ xs) ≡ x ∷ xs
unfolding trim_start
start_none x xs e = ap (λ o. from o (x ∷ xs)) (position_at (λ c. not (is_blank c)) [] x xs refl (not_from_false (is_blank x) e))

start_one : (x : ℕ) (xs : List ℕ) → is_blank x ≡ false → trim_start (32 ∷ x ∷ xs) ≡ x ∷ xs
unfolding trim_start
start_one x xs e = ap (λ o. from o (32 ∷ x ∷ xs)) (position_at (λ c. not (is_blank c)) (32 ∷ []) x xs refl (not_from_false (is_blank x) e))

solid_start : (xs ys : List ℕ) → is_solid_text xs ≡ true → trim_start (32 ∷ (xs ++ ys)) ≡ xs ++ ys
solid_start [] ys h = absurd (cc)
solid_start (x ∷ xs) ys h = start_one x (xs ++ ys) (visible x (and_parts (is_solid x) (list_all is_solid xs) h).0)

solid_alone : (xs : List ℕ) → is_solid_text xs ≡ true → trim_start (32 ∷ xs) ≡ xs
solid_alone xs h = ap (λ t. trim_start (32 ∷ t)) (sym (append-nil xs)) ∙ solid_start xs [] h ∙ append-nil xs

not_empty : (xs : List ℕ) → is_solid_text xs ≡ true → (0 == length xs) ≡ false
not_empty [] h = absurd (cc)
not_empty (x ∷ xs) h = ne_eqb 0 (suc (length xs)) (omega arith)

-- the last byte of a text is solid
abbrev pub Ends : List ℕ → Type 0
Ends text = (n : ℕ) × (length text ≡ suc n) × (is_solid (slice_index text n) ≡ true)

pub ends_more : (x : ℕ) (xs : List ℕ) → Ends xs → Ends (x ∷ xs)
ends_more x xs e = (suc e.0, ap suc e.1, e.2)

pub ends_behind : (xs ys : List ℕ) → Ends ys → Ends (xs ++ ys)
ends_behind [] ys e = e
ends_behind (x ∷ xs) ys e = ends_more x (xs ++ ys) (ends_behind xs ys e)

pub ends_solid : (xs : List ℕ) → is_solid_text xs ≡ true → Ends xs
ends_solid [] h = absurd (cc)
ends_solid (x ∷ []) h = (0, refl, (and_parts (is_solid x) true h).0)
ends_solid (x ∷ y ∷ ys) h = ends_more x (y ∷ ys) (ends_solid (y ∷ ys) (and_parts (is_solid x) (list_all is_solid (y ∷ ys)) h).1)

no_cr : (c : ℕ) → is_solid c ≡ true → (c == 13) ≡ false
no_cr c h =
    let p = printed c h in
    let v = visible c h in
    grind (arith, nat_tests)

end_none : (text : List ℕ) → Ends text → trim_end text ≡ text
unfolding trim_end
end_none text e = rw (e.1, visible _ e.2) (ap (λ n. take n text) (sym e.1) ∙ take-length text)

cr_none : (text : List ℕ) → Ends text → without_cr text ≡ text
cr_none text e =
    let last : length text - 1 ≡ e.0 = omega (arith, e.1) in
    let some : 0 ≡ length text → ⊥ = omega (arith, e.1) in
    cond-false (0 == length text) text (if slice_index text (length text - 1) == 13 then take (length text - 1) text else text) (ne_eqb 0 (length text) some)
    ∙ cond-false (slice_index text (length text - 1) == 13) (take (length text - 1) text) text (ap (λ n. slice_index text n == 13) last ∙ no_cr (slice_index text e.0) e.2)

comment_none : (text : List ℕ) → list_all is_kept text ≡ true → without_comment text ≡ text
unfolding without_comment
comment_none text h = ap (λ o. up_to o text) (position_none (λ c. c == 59) text (weaker is_kept (λ c. not (c == 59)) (λ c k. (and_parts _ _ (and_parts _ _ k).1).1) text h))

-- a line of printed bytes with no blank at an end has nothing but its body
pub body_whole : (x : ℕ) (xs : List ℕ) → is_blank x ≡ false → list_all is_kept (x ∷ xs) ≡ true → Ends (x ∷ xs) → body_of (x ∷ xs) ≡ x ∷ xs
body_whole x xs e k ends =
    ap (λ t. trim_end (trim_start (without_comment t))) (cr_none (x ∷ xs) ends)
    ∙ ap (λ t. trim_end (trim_start t)) (comment_none (x ∷ xs) k)
    ∙ ap trim_end (start_none x xs e)
    ∙ end_none (x ∷ xs) ends

-- the mnemonic and the operands
module _ (m : List ℕ) (hm : is_solid_text m ≡ true) where
  not_blank : list_all (λ c. not (is_blank c)) m ≡ true
  not_blank = weaker is_solid (λ c. not (is_blank c)) (λ c h. not_from_false _ (visible c h)) m (solid_all m hm)

  pub cut_zero : instruction_of m ≡ (m, Zero)
  cut_zero = ap (λ o. instruction_at o m) (position_none is_blank m not_blank)

  behind : (rest : List ℕ) → instruction_of (m ++ 32 ∷ rest) ≡ (m, texts_of (trim_start (32 ∷ rest)))
  behind rest =
      ap (λ o. instruction_at o (m ++ 32 ∷ rest)) (position_at is_blank m 32 rest not_blank refl)
      ∙ λ i. (take-append_seam m (32 ∷ rest) i, texts_of (trim_start (drop-append_seam m (32 ∷ rest) i)))

  module _ (a : List ℕ) (ha : is_solid_text a ≡ true) where
    no_commas : list_all (λ c. not (c == 44)) a ≡ true
    no_commas = weaker is_solid (λ c. not (c == 44)) no_comma a (solid_all a ha)

    one_text : texts_of a ≡ One a
    unfolding texts_of
    one_text =
        cond-false (0 == length a) Zero (texts_behind (position (λ c. c == 44) a) a) (not_empty a ha)
        ∙ ap (λ o. texts_behind o a) (position_none (λ c. c == 44) a no_commas)

    pub cut_one : instruction_of (m ++ 32 ∷ a) ≡ (m, One a)
    cut_one =
        behind a
        ∙ ap (λ t. (m, texts_of t)) (solid_alone a ha)
        ∙ ap (λ t. (m, t)) one_text

    module _ (b : List ℕ) (hb : is_solid_text b ≡ true) where
      two_texts : texts_of (a ++ 44 ∷ 32 ∷ b) ≡ Two a b
      unfolding texts_of
      two_texts =
          let some : 0 ≡ length (a ++ 44 ∷ 32 ∷ b) → ⊥ = omega (arith, longer a 44 (32 ∷ b)) in
          cond-false (0 == length (a ++ 44 ∷ 32 ∷ b)) Zero (texts_behind (position (λ c. c == 44) (a ++ 44 ∷ 32 ∷ b)) (a ++ 44 ∷ 32 ∷ b)) (ne_eqb 0 (length (a ++ 44 ∷ 32 ∷ b)) some)
          ∙ ap (λ o. texts_behind o (a ++ 44 ∷ 32 ∷ b)) (position_at (λ c. c == 44) a 44 (32 ∷ b) no_commas refl)
          ∙ (λ i. pair_of (take-append_seam a (44 ∷ 32 ∷ b) i) (trim_start (drop-append-add a (44 ∷ 32 ∷ b) 1 i)))
          ∙ ap (λ t. pair_of a t) (solid_alone b hb)
          ∙ ap (λ o. if is_some o then Many else Two a b) (position_none (λ c. c == 44) b (weaker is_solid (λ c. not (c == 44)) no_comma b (solid_all b hb)))

      pub cut_two : instruction_of (m ++ 32 ∷ (a ++ 44 ∷ 32 ∷ b)) ≡ (m, Two a b)
      cut_two =
          behind (a ++ 44 ∷ 32 ∷ b)
          ∙ ap (λ t. (m, texts_of t)) (solid_start a (44 ∷ 32 ∷ b) ha)
          ∙ ap (λ t. (m, t)) two_texts
