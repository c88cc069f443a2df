-- A text that is cut at a byte.
use Rattle.std.proofs.Common.{◌≡◌, ℕ, suc, ◌+◌, Bool, true, false, cond, eqb, nat_lt, List, [], ◌∷◌, length, take, drop, Some, None, Ok, refl, sym, ap, ◌∙◌, arith, inl, inr}
use Rattle.std.specs.List.{slice_split, position, position_or_len, join_with_byte, onto_first}
use Rattle.std.proofs.lemmas.Bool.{eqb-true, cases_lt, lt-ltb, le-ltb}
use Rattle.std.proofs.lemmas.Bool.Decides.{nat_tests}
use Rattle.std.proofs.lemmas.List.Splits.{slice_split_first, slice_split-cons_no, join_with_byte-slice_split}
use Rattle.state_text.specs.Parts.{pieces_of}
use Rattle.state_text.specs.Reading.{Place, place, next_line, no_form}

-- the byte does not stand in the text
pub split_none : (p : ℕ → Bool) (xs : List ℕ) → position p xs ≡ None → slice_split p xs ≡ xs ∷ []
split_none p [] none = refl
split_none p (x ∷ xs) none = go (p x) refl (λ rest. split_none p xs rest)
  where
    go : (t : Bool) → p x ≡ t → (position p xs ≡ None → slice_split p xs ≡ xs ∷ []) → slice_split p (x ∷ xs) ≡ (x ∷ xs) ∷ []
    go true e rec =
        let t : nat_lt 0 (suc (length xs)) ≡ true = grind (arith, nat_tests) in
        let shown : position p (x ∷ xs) ≡ cond (nat_lt 0 (suc (length xs))) (Some 0) None = rw e refl in
        let bad : Some 0 ≡ None = sym (rw t at shown) ∙ none in
        cc
    go false e rec =
        let n = position_or_len p xs in
        elim (cases_lt n (length xs)) [
          | inl under ↦
              let t : nat_lt (1 + n) (suc (length xs)) ≡ true = grind (arith, nat_tests) in
              let shown : position p (x ∷ xs) ≡ cond (nat_lt (1 + n) (suc (length xs))) (Some (1 + n)) None = rw e refl in
              let bad : Some (1 + n) ≡ None = sym (rw t at shown) ∙ none in
              cc
          | inr over ↦
              let t : nat_lt n (length xs) ≡ false = grind (arith, nat_tests) in
              let rest : position p xs ≡ None = rw t refl in
              slice_split-cons_no p x xs e ∙ ap (onto_first x) (rec rest)
        ]

-- its first place
pub split_some : (p : ℕ → Bool) (xs : List ℕ) (i : ℕ) → position p xs ≡ Some i → slice_split p xs ≡ take i xs ∷ slice_split p (drop (i + 1) xs)
split_some p xs i e =
    let n = position_or_len p xs in
    elim (cases_lt n (length xs)) [
      | inl under ↦
          let t : nat_lt n (length xs) ≡ true = lt-ltb n (length xs) under in
          let same : Some n ≡ Some i = rw t at e in
          let k : n ≡ i = cc in
          rw (← k) (slice_split_first p xs 0 under)
      | inr over ↦
          let t : nat_lt n (length xs) ≡ false = le-ltb n (length xs) over in
          let bad : None ≡ Some i = rw t at e in
          cc
    ]

-- there is always a piece
pub some_piece : (p : ℕ → Bool) (xs : List ℕ) → (m : List ℕ) × (ms : List (List ℕ)) × (slice_split p xs ≡ m ∷ ms)
some_piece p [] = ([], [], refl)
some_piece p (x ∷ xs) = go (p x) (slice_split p xs) (some_piece p xs)
  where
    go : (t : Bool) (pieces : List (List ℕ)) → (m : List ℕ) × (ms : List (List ℕ)) × (pieces ≡ m ∷ ms) → (m : List ℕ) × (ms : List (List ℕ)) × (cond t ([] ∷ pieces) (onto_first x pieces) ≡ m ∷ ms)
    go true pieces rest = ([], pieces, refl)
    go false pieces rest = (x ∷ rest.0, rest.1, rw rest.2 refl)

-- the last piece has no LF behind it
pub next_none : (number : ℕ) (text : List ℕ) (at : Place) → at ≡ place number (pieces_of text) → pieces_of text ≡ text ∷ [] → next_line at ≡ no_form number
next_none number text at e cut = rw (e, cut) refl

-- any other is a line
pub next_some : (number : ℕ) (text line rest : List ℕ) (at : Place) → at ≡ place number (pieces_of text) → pieces_of text ≡ line ∷ pieces_of rest → next_line at ≡ Ok (line, place (number + 1) (pieces_of rest))
next_some number text line rest at e cut =
    let more = some_piece (λ b. eqb b 10) rest in
    let whole : pieces_of text ≡ line ∷ more.0 ∷ more.1 = cut ∙ ap (λ ps. line ∷ ps) more.2 in
    rw (e, whole, more.2) refl

-- nothing is left of a text exactly where its one piece is empty
pub none_left : (text : List ℕ) → pieces_of text ≡ [] ∷ [] → eqb (length text) 0 ≡ true
none_left text e =
    let t : join_with_byte 10 (pieces_of text) ≡ text = join_with_byte-slice_split 10 text in
    let is : [] ≡ text = ap (join_with_byte 10) (sym e) ∙ t in
    rw (← is) refl

pub left_none : (text : List ℕ) → eqb (length text) 0 ≡ true → pieces_of text ≡ [] ∷ []
left_none [] e = refl
left_none (x ∷ xs) e = absurd (omega (arith, eqb-true (length (x ∷ xs)) 0 e))
