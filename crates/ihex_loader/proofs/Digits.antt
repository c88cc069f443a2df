-- The digits of a record have no LF and no CR, so the record is one line.
use Rattle.std.proofs.Common.{◌≡◌, ℕ, zero, suc, ◌-◌, ◌/◌, ◌%◌, ◌<◌, eqb, cond, Bool, true, false, List, [], ◌∷◌, ◌++◌, length, get_or, Fits, w16, refl, ap, ◌∙◌, arith, append_assoc}
use Rattle.std.specs.List.{All, slice_split}
use Rattle.std.specs.Prelude.{slice_index, map}
use Rattle.std.proofs.lemmas.List.Elements.{All-nil, All-cons, All-head, All-tail}
use Rattle.std.proofs.lemmas.List.Splits.{slice_split_at}
use Rattle.avr_base.proofs.Computed.{all_from, all_from-at}
use Rattle.hex.specs.Hex.{IsBytes, encode_with, encode_upper, upper_digits}
use Rattle.ihex_loader.specs.Flash.{bytes_of_words}
use Rattle.ihex_loader.specs.Line.{Record, line_of, without_cr}
use Rattle.ihex_loader.specs.Image.{lines_of}
use Rattle.ihex_loader.specs.Written.{IsWritable, before_check, check_byte, record_bytes}
use Rattle.ihex_loader.proofs.Written.{read_upper}
use Rattle.ihex_loader.specs.Hex.{record_line}

pub cons_bytes : (x : ℕ) (xs : List ℕ) → x < 256 → IsBytes xs → IsBytes (x ∷ xs)
cons_bytes x xs lt h zero = lt
cons_bytes x xs lt h (suc i) = h i

last_bytes : (xs : List ℕ) (x : ℕ) → IsBytes xs → x < 256 → IsBytes (xs ++ x ∷ [])
last_bytes [] x h lt = cons_bytes x [] lt h
last_bytes (y ∷ xs) x h lt = cons_bytes y (xs ++ x ∷ []) (h 0) (last_bytes xs x (λ i. h (suc i)) lt)

pub no_bytes : IsBytes []
no_bytes i = omega arith

-- the bytes of words
pub words_are_bytes : (words : List ℕ) → ((i : ℕ) → Fits w16 (get_or words i 0)) → IsBytes (bytes_of_words words)
words_are_bytes [] h = no_bytes
words_are_bytes (w ∷ ws) h =
    let fits : Fits w16 w = h 0 in
    let low : w < 65536 = omega (arith, fits) in
    cons_bytes (w % 256) (w / 256 ∷ bytes_of_words ws) (omega arith) (cons_bytes (w / 256) (bytes_of_words ws) (omega arith) (words_are_bytes ws (λ i. h (suc i))))

record_is_bytes : (kind offset : ℕ) (bytes : List ℕ) → IsWritable kind offset bytes → IsBytes (record_bytes kind offset bytes)
record_is_bytes kind offset bytes w =
    let h = w.offset_fits in
    let k = w.kind_known in
    let n = w.count_fits in
    let front : IsBytes (before_check kind offset bytes) =
    cons_bytes (length bytes) (offset / 256 ∷ offset % 256 ∷ kind ∷ bytes) (omega arith)
    (cons_bytes (offset / 256) (offset % 256 ∷ kind ∷ bytes) (omega arith)
    (cons_bytes (offset % 256) (kind ∷ bytes) (omega arith) (cons_bytes kind bytes (omega arith) w.are_bytes))) in
    last_bytes (before_check kind offset bytes) (check_byte (before_check kind offset bytes)) front (omega arith)

abbrev differs : ℕ → ℕ → Bool
differs c n = elim (eqb (slice_index upper_digits n) c) [ true ↦ false | false ↦ true ]

differs-false : (b : Bool) → elim b [ true ↦ false | false ↦ true ] ≡ true → b ≡ false
differs-false true h = absurd (cc)
differs-false false h = refl

no_glyph : (c : ℕ) → all_from (differs c) 0 16 ≡ true → (n : ℕ) → n < 16 → eqb (slice_index upper_digits n) c ≡ false
no_glyph c computed n lt = differs-false _ (all_from-at (differs c) 0 16 n computed (omega arith) lt)

no_digit : (c : ℕ) → all_from (differs c) 0 16 ≡ true → (bytes : List ℕ) → IsBytes bytes → All (λ b. eqb b c ≡ false) (encode_upper bytes)
unfolding encode_with
no_digit c computed [] h = All-nil (λ b. eqb b c ≡ false)
no_digit c computed (x ∷ xs) h =
    let low : x < 256 = h 0 in
    All-cons (λ b. eqb b c ≡ false) (slice_index upper_digits (x / 16)) (slice_index upper_digits (x % 16) ∷ encode_upper xs) (no_glyph c computed (x / 16) (omega arith))
    (All-cons (λ b. eqb b c ≡ false) (slice_index upper_digits (x % 16)) (encode_upper xs) (no_glyph c computed (x % 16) (omega arith)) (no_digit c computed xs (λ i. h (suc i))))

-- a colon and such digits
no_code : (c : ℕ) → all_from (differs c) 0 16 ≡ true → eqb 58 c ≡ false → (bytes : List ℕ) → IsBytes bytes → All (λ b. eqb b c ≡ false) (58 ∷ encode_upper bytes)
no_code c computed colon bytes h = All-cons (λ b. eqb b c ≡ false) 58 (encode_upper bytes) colon (no_digit c computed bytes h)

last_differs : (c x : ℕ) (xs : List ℕ) → All (λ b. eqb b c ≡ false) (x ∷ xs) → eqb (slice_index (x ∷ xs) (length xs)) c ≡ false
last_differs c x [] h = All-head (λ b. eqb b c ≡ false) x [] h
last_differs c x (y ∷ ys) h = last_differs c y ys (All-tail (λ b. eqb b c ≡ false) x (y ∷ ys) h)

kept_whole : (x : ℕ) (xs : List ℕ) → All (λ b. eqb b 13 ≡ false) (x ∷ xs) → without_cr (x ∷ xs) ≡ x ∷ xs
kept_whole x xs h =
    let n : length (x ∷ xs) - 1 ≡ length xs = omega arith in
    chosen _ _ (x ∷ xs) _ (ap (λ k. eqb (slice_index (x ∷ xs) k) 13) n ∙ last_differs 13 x xs h)
  where
    chosen : (a b : Bool) (t u : List ℕ) → b ≡ false → cond a t (cond b u t) ≡ t
    chosen true b t u e = refl
    chosen false true t u e = absurd (cc)
    chosen false false t u e = refl

-- a record as a line is read as the record
pub line_read : (kind offset : ℕ) (bytes rest : List ℕ) → IsWritable kind offset bytes → lines_of (record_line kind offset bytes ++ rest) ≡ Record kind offset bytes ∷ lines_of rest
line_read kind offset bytes rest w =
    let digits = encode_upper (record_bytes kind offset bytes) in
    let are = record_is_bytes kind offset bytes w in
    let apart : (digits ++ 10 ∷ []) ++ rest ≡ digits ++ 10 ∷ rest = append_assoc digits (10 ∷ []) rest in
    let split : slice_split (λ b. eqb b 10) ((58 ∷ digits) ++ 10 ∷ rest) ≡ (58 ∷ digits) ∷ slice_split (λ b. eqb b 10) rest =
    slice_split_at (λ b. eqb b 10) (58 ∷ digits) 10 rest (no_code 10 refl refl (record_bytes kind offset bytes) are) refl in
    let whole : without_cr (58 ∷ digits) ≡ 58 ∷ digits = kept_whole 58 digits (no_code 13 refl refl (record_bytes kind offset bytes) are) in
    ap (λ t. lines_of (58 ∷ t)) apart
    ∙ (ap (map (λ text. line_of (without_cr text))) split
    ∙ ap (λ l. l ∷ lines_of rest) (ap line_of whole ∙ read_upper kind offset bytes w))
