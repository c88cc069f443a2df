-- Texts whose bytes all lie above a separator, so that it does not stand in them, and how they are joined and cut.
use Rattle.std.proofs.Common.{◌≡◌, ℕ, ◌<◌, ◌≤◌, ◌/◌, ◌%◌, true, false, eqb, ltb, ◌&&◌, List, [], ◌∷◌, ◌++◌, refl, sym, ap, ◌∙◌, append_assoc, arith}
use Rattle.std.specs.List.{All, AllByRecursion, list_all, flat_map, join_with_byte}
use Rattle.std.specs.Prelude.{slice_index}
use Rattle.std.proofs.lemmas.Bool.{and_parts, and_from, leb-true, ltb-true, lt-ltb, ne_eqb, agree_below_at}
use Rattle.std.proofs.lemmas.List.{append-nil}
use Rattle.std.proofs.lemmas.List.Elements.{All-nil, All-cons}
use Rattle.std.proofs.lemmas.List.Folds.{list_all-append}
use Rattle.std.proofs.lemmas.List.Splits.{slice_split_at, slice_split_none}
use Rattle.hex.specs.Hex.{encode_with, encode_upper, upper_digits}
use Rattle.state_text.specs.Parts.{is_digit, parts_of, line_of, ended, pieces_of}

-- each byte is above c
abbrev pub IsAbove : ℕ → List ℕ → Type 0
IsAbove c text = list_all (λ b. ltb c b) text ≡ true

abbrev pub AreBytes : List ℕ → Type 0
AreBytes bytes = AllByRecursion (λ x. x < 256) bytes

pub above_lower : (c d : ℕ) (text : List ℕ) → c ≤ d → IsAbove d text → IsAbove c text
above_lower c d [] le h = refl
above_lower c d (b ∷ text) le h =
    let p = and_parts (ltb d b) (list_all (λ b. ltb d b) text) h in
    and_from (ltb c b) (list_all (λ b. ltb c b) text) (lt-ltb c b (omega (arith, ltb-true d b p.0))) (above_lower c d text le p.1)

pub above_append : (c : ℕ) (a b : List ℕ) → IsAbove c a → IsAbove c b → IsAbove c (a ++ b)
above_append c a b h k = list_all-append (λ b. ltb c b) a b ∙ and_from (list_all (λ b. ltb c b) a) (list_all (λ b. ltb c b) b) h k

-- so it is none of them
apart : (c : ℕ) (text : List ℕ) → IsAbove c text → All (λ b. eqb b c ≡ false) text
apart c [] h = All-nil (λ b. eqb b c ≡ false)
apart c (b ∷ text) h =
    let p = and_parts (ltb c b) (list_all (λ b. ltb c b) text) h in
    All-cons (λ b. eqb b c ≡ false) b text (ne_eqb b c (λ e. omega (arith, ltb-true c b p.0, e))) (apart c text p.1)

pub digits_above : (ds : List ℕ) → list_all is_digit ds ≡ true → IsAbove 32 ds
digits_above [] h = refl
digits_above (d ∷ ds) h =
    let p = and_parts (is_digit d) (list_all is_digit ds) h in
    let q = and_parts _ _ p.0 in
    and_from (ltb 32 d) (list_all (λ b. ltb 32 b) ds) (lt-ltb 32 d (omega (arith, leb-true 48 d q.0))) (digits_above ds p.1)

pub glyph_above : (d : ℕ) → d < 16 → ltb 32 (slice_index upper_digits d) ≡ true
glyph_above d lt = agree_below_at (λ n. ltb 32 (slice_index upper_digits n)) (λ n. true) 16 d refl lt

pub hex_above : (bytes : List ℕ) → AreBytes bytes → IsAbove 32 (encode_upper bytes)
unfolding encode_with
hex_above [] h = refl
hex_above (b ∷ bytes) h =
    let lt = h.0 in
    let high = glyph_above (b / 16) (omega (arith, lt)) in
    let low = glyph_above (b % 16) (omega (arith, lt)) in
    and_from (ltb 32 (slice_index upper_digits (b / 16))) (ltb 32 (slice_index upper_digits (b % 16)) && list_all (λ b. ltb 32 b) (encode_upper bytes)) high
    (and_from (ltb 32 (slice_index upper_digits (b % 16))) (list_all (λ b. ltb 32 b) (encode_upper bytes)) low (hex_above bytes h.1))

-- parts that were joined are cut again
pub parts_again : (p : List ℕ) (ps : List (List ℕ)) → AllByRecursion (IsAbove 32) (p ∷ ps) → parts_of (line_of (p ∷ ps)) ≡ p ∷ ps
parts_again p [] h = slice_split_none (λ b. eqb b 32) p (apart 32 p h.0)
parts_again p (q ∷ ps) h =
    slice_split_at (λ b. eqb b 32) p 32 (line_of (q ∷ ps)) (apart 32 p h.0) refl ∙ ap (λ xs. p ∷ xs) (parts_again q ps h.1)

-- and their line is one
pub line_above : (parts : List (List ℕ)) → AllByRecursion (IsAbove 32) parts → IsAbove 10 (line_of parts)
line_above [] h = refl
line_above (p ∷ []) h = above_lower 10 32 p (omega arith) h.0
line_above (p ∷ q ∷ ps) h = above_append 10 p (32 ∷ line_of (q ∷ ps)) (above_lower 10 32 p (omega arith) h.0) (line_above (q ∷ ps) h.1)

-- lines that were ended are cut again
pub pieces_again : (lines : List (List ℕ)) → AllByRecursion (IsAbove 10) lines → pieces_of (flat_map ended lines) ≡ lines ++ [] ∷ []
pieces_again [] h = refl
pieces_again (l ∷ lines) h =
    ap pieces_of (append_assoc l (10 ∷ []) (flat_map ended lines))
    ∙ (slice_split_at (λ b. eqb b 10) l 10 (flat_map ended lines) (apart 10 l h.0) refl
    ∙ ap (λ xs. l ∷ xs) (pieces_again lines h.1))

-- lines that are joined with LF, with nothing behind the last
pub joined : (lines : List (List ℕ)) → join_with_byte 10 (lines ++ [] ∷ []) ≡ flat_map ended lines
joined [] = refl
joined (l ∷ []) = sym (append-nil (l ++ 10 ∷ []))
joined (l ∷ m ∷ lines) =
    ap (λ rest. l ++ 10 ∷ rest) (joined (m ∷ lines)) ∙ sym (append_assoc l (10 ∷ []) (flat_map ended (m ∷ lines)))
