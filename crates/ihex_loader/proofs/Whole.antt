-- The whole file.
use Rattle.std.proofs.Common.{◌≡◌, ℕ, zero, suc, ◌+◌, ◌-◌, ◌*◌, ◌%◌, ◌<◌, ◌≤◌, eqb, nat_le, ◌≢◌, if◌then◌else◌, Bool, true, false, List, [], ◌∷◌, ◌++◌, length, take, drop, None, Some, length-drop, length-take-le, zero-add, refl, sym, ap, ◌∙◌, subst, arith, append_assoc, inl, inr}
use Rattle.std.proofs.Math.Nat.{suc-add}
use Rattle.std.proofs.lemmas.Bool.{cases_lt, eqb-true, eq-eqb, true≢false}
use Rattle.std.proofs.lemmas.Bool.Decides.{nat_tests}
use Rattle.std.proofs.lemmas.List.{append-nil}
use Rattle.hex.specs.Hex.{IsBytes}
use Rattle.ihex_loader.specs.Line.{Line, Blank, Record}
use Rattle.ihex_loader.specs.Flash.{Image, bytes_of_words, image_of_words, padded}
use Rattle.ihex_loader.specs.Image.{first_fault, hex_fault, image, lines_of}
use Rattle.ihex_loader.specs.Pass.{Gives}
use Rattle.ihex_loader.specs.declared.fault.HexFault.TheVariants.{NoEnd}
use Rattle.ihex_loader.proofs.OnePass.{image_given}
use Rattle.ihex_loader.proofs.Words.{Stands_erased, length-bytes_of_words}
use Rattle.ihex_loader.specs.Hex.{count, hex_of, records_to, record_line}
use Rattle.ihex_loader.proofs.RowLines.{row, row_few, base_lines, lines_to, all_read}
use Rattle.ihex_loader.proofs.Wrote.{Wrote, length-padded, other_wrote, blank_wrote, data_wrote}

-- the base behind the n first records: the linear one is set before record 4,096
abbrev base_to : ℕ → ℕ
base_to n = if nat_le n 4096 then 0 else 65536

take-nil : (n : ℕ) → take {A = ℕ} n [] ≡ []
take-nil zero = refl
take-nil (suc n) = refl

drop-nil : (n : ℕ) → drop {A = ℕ} n [] ≡ []
drop-nil zero = refl
drop-nil (suc n) = refl

take_two : (a b : ℕ) (l : List ℕ) → take (a + b) l ≡ take a l ++ take b (drop a l)
take_two zero b l = ap (λ k. take k l) (zero-add b)
take_two (suc a) b [] = take-nil (suc a + b) ∙ sym (take-nil b)
take_two (suc a) b (x ∷ xs) = ap (λ k. take k (x ∷ xs)) (suc-add a b) ∙ ap (λ t. x ∷ t) (take_two a b xs)

take_whole : (n : ℕ) (l : List ℕ) → length l ≤ n → take n l ≡ l
take_whole zero [] le = refl
take_whole zero (x ∷ xs) le = absurd (omega arith)
take_whole (suc n) [] le = refl
take_whole (suc n) (x ∷ xs) le = ap (λ t. x ∷ t) (take_whole n xs (omega arith))

eqb-false-≢ : (m n : ℕ) → eqb m n ≡ false → m ≢ n
eqb-false-≢ m n e h = absurd (true≢false (sym (eq-eqb m n h) ∙ e))

take_length : (n : ℕ) (l : List ℕ) → n ≤ length l → length (take n l) ≡ n
take_length n l le = length-take-le n l le

row_length : (n : ℕ) (bytes : List ℕ) → 16 * n < length bytes → 0 < length (row n bytes)
row_length n bytes lt = some (drop (16 * n) bytes) (let e = length-drop (16 * n) bytes in omega (arith, e))
  where
    some : (l : List ℕ) → 0 < length l → 0 < length (take 16 l)
    some [] h = h
    some (x ∷ xs) h = omega arith

row_within : (n : ℕ) (bytes : List ℕ) → length (row n bytes) ≤ length bytes - 16 * n
row_within n bytes = below 16 (drop (16 * n) bytes) (let e = length-drop (16 * n) bytes in omega (arith, e))
  where
    below : (k : ℕ) (l : List ℕ) → {m : ℕ} → length l ≤ m → length (take k l) ≤ m
    below zero l h = omega arith
    below (suc k) [] h = h
    below (suc k) (x ∷ xs) {m} h = let e = below k xs {m = m - 1} (omega arith) in omega (arith, e)

step_at : (n : ℕ) (bytes : List ℕ) (lines : List Line) (b : ℕ) → Wrote lines (take (16 * n) bytes) b false → b + 16 * n % 65536 ≡ 16 * n → 16 * n < length bytes → length bytes ≤ 131072
    → Wrote (lines ++ Record 0 (16 * n % 65536) (row n bytes) ∷ []) (take (16 * suc n) bytes) b false
step_at n bytes lines b w at lt few =
    let len = take_length (16 * n) bytes (omega arith) in
    let within = row_within n bytes in
    let small = row_few n bytes in
    let more = data_wrote lines (take (16 * n) bytes) (row n bytes) b (16 * n % 65536) w (at ∙ sym len) (row_length n bytes lt) (omega arith) (omega (arith, len)) in
    let next : 16 * suc n ≡ 16 * n + 16 = omega arith in
    subst (λ xs. Wrote (lines ++ Record 0 (16 * n % 65536) (row n bytes) ∷ []) xs b false) (sym (ap (λ k. take k bytes) next ∙ take_two (16 * n) 16 bytes)) more

base_step : (n : ℕ) (c : Bool) → eqb n 4096 ≡ c → (bytes : List ℕ) (lines : List Line) → Wrote lines (take (16 * n) bytes) (base_to n) false → 16 * n < length bytes → length bytes ≤ 131072
    → Wrote (lines ++ (base_lines c ++ Record 0 (16 * n % 65536) (row n bytes) ∷ [])) (take (16 * suc n) bytes) (base_to (suc n)) false
base_step n true e bytes lines w lt few =
    let is : n ≡ 4096 = eqb-true n 4096 e in
    let low : base_to n ≡ 0 = grind (arith, nat_tests) in
    let high : base_to (suc n) ≡ 65536 = grind (arith, nat_tests) in
    let based = other_wrote lines (take (16 * n) bytes) (base_to n) 65536 4 (0 ∷ 1 ∷ []) false w (λ k. absurd (omega arith)) refl refl in
    let more = step_at n bytes (lines ++ Record 4 0 (0 ∷ 1 ∷ []) ∷ []) 65536 based (omega arith) lt few in
    subst (λ b. Wrote (lines ++ (base_lines true ++ Record 0 (16 * n % 65536) (row n bytes) ∷ [])) (take (16 * suc n) bytes) b false) (sym high)
    (subst (λ ls. Wrote ls (take (16 * suc n) bytes) 65536 false) (append_assoc lines (Record 4 0 (0 ∷ 1 ∷ []) ∷ []) (Record 0 (16 * n % 65536) (row n bytes) ∷ [])) more)
base_step n false e bytes lines w lt few =
    let other : n ≢ 4096 = eqb-false-≢ n 4096 e in
    let same : base_to (suc n) ≡ base_to n = grind (arith, nat_tests) in
    let at : base_to n + 16 * n % 65536 ≡ 16 * n = place n other (omega arith) in
    subst (λ b. Wrote (lines ++ Record 0 (16 * n % 65536) (row n bytes) ∷ []) (take (16 * suc n) bytes) b false) (sym same) (step_at n bytes lines (base_to n) w at lt few)
  where
    place : (n : ℕ) → n ≢ 4096 → 16 * n < 131072 → base_to n + 16 * n % 65536 ≡ 16 * n
    place n ne lt = elim (cases_lt n 4096) [
      | inl below ↦ let z : base_to n ≡ 0 = grind (arith, nat_tests) in omega (arith, z)
      | inr from ↦ let z : base_to n ≡ 65536 = grind (arith, nat_tests) in omega (arith, z)
    ]

erased : Wrote [] [] 0 false
unfolding first_fault
erased = record {
  quiet = λ rest. refl;
  stands = let flash : Image = record { bytes = padded 131072 []; used = 0 } in Stands_erased flash (length-padded 131072 [] (omega arith)) refl;
}

wrote_to : (n : ℕ) (bytes : List ℕ) → 16 * n ≤ length bytes + 15 → length bytes ≤ 131072 → Wrote (lines_to n bytes) (take (16 * n) bytes) (base_to n) false
wrote_to zero bytes le few = erased
wrote_to (suc n) bytes le few = base_step n (eqb n 4096) refl bytes (lines_to n bytes) (wrote_to n bytes (omega arith) few) (omega arith) few

-- the file of these bytes is read as them
record Read (text bytes : List ℕ) : Type 0 where
  pub sound : hex_fault text ≡ None
  pub gives : (let i : Image = record { bytes = padded 131072 bytes; used = length bytes } in i) ≡ image text

all_wrote : (bytes : List ℕ) → length bytes ≤ 131072 → Wrote ((lines_to (count bytes) bytes ++ Record 1 0 [] ∷ []) ++ Blank ∷ []) bytes (base_to (count bytes)) true
all_wrote bytes few =
    let n = count bytes in
    let whole : take (16 * n) bytes ≡ bytes = take_whole (16 * n) bytes (omega arith) in
    let w = subst (λ xs. Wrote (lines_to n bytes) xs (base_to n) false) whole (wrote_to n bytes (omega arith) few) in
    blank_wrote (lines_to n bytes ++ Record 1 0 [] ∷ []) bytes (base_to n) true (other_wrote (lines_to n bytes) bytes (base_to n) (base_to n) 1 [] true w (λ k. refl) refl refl)

read_if : (text bytes : List ℕ) (lines : List Line) (b : ℕ) → lines_of text ≡ lines → Wrote lines bytes b true → Read text bytes
unfolding hex_fault first_fault
read_if text bytes lines b e w =
    let quiet : first_fault [] (lines ++ []) ≡ first_fault lines [] = w.quiet [] in
    record {
      sound = ap (first_fault []) (e ∙ sym (append-nil lines)) ∙ (quiet ∙ ap (λ c. if c then None else Some NoEnd) (sym w.stands.ended_is));
      gives = image_given text (padded 131072 bytes) (length bytes) (subst (λ ls. Gives ls (padded 131072 bytes) (length bytes)) (sym e) w.stands.gives);
    }

read_back : (bytes : List ℕ) → IsBytes bytes → length bytes ≤ 131072 → Read (records_to (count bytes) bytes ++ record_line 1 0 []) bytes
read_back bytes are few =
    read_if _ bytes _ _ (all_read (count bytes) bytes are ∙ sym (append_assoc (lines_to (count bytes) bytes) (Record 1 0 [] ∷ []) (Blank ∷ []))) (all_wrote bytes few)

pub text_sound : (words : List ℕ) → IsBytes (bytes_of_words words) → length words ≤ 65536 → hex_fault (hex_of words) ≡ None
unfolding hex_of
text_sound words are few = let e = length-bytes_of_words words in (read_back (bytes_of_words words) are (omega (arith, e))).sound

pub text_image : (words : List ℕ) → IsBytes (bytes_of_words words) → length words ≤ 65536 → image (hex_of words) ≡ image_of_words words
unfolding hex_of
text_image words are few =
    let e = length-bytes_of_words words in
    sym (read_back (bytes_of_words words) are (omega (arith, e))).gives ∙ ap (λ n. let i : Image = record { bytes = padded 131072 (bytes_of_words words); used = n } in i) e
