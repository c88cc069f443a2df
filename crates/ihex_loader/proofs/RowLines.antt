-- The lines of the records.
use Rattle.std.proofs.Common.{◌≡◌, ℕ, zero, suc, ◌*◌, ◌%◌, ◌≤◌, eqb, if◌then◌else◌, Bool, true, false, List, [], ◌∷◌, ◌++◌, length, take, drop, refl, sym, ap, ◌∙◌, arith, append_assoc}
use Rattle.std.proofs.lemmas.List.{append-nil}
use Rattle.hex.specs.Hex.{IsBytes}
use Rattle.ihex_loader.specs.Line.{Line, Blank, Record, has_length, line_of}
use Rattle.ihex_loader.specs.Image.{lines_of}
use Rattle.ihex_loader.specs.Written.{IsWritable}
use Rattle.ihex_loader.specs.Hex.{record_line, record_at, records_to}
use Rattle.ihex_loader.proofs.Digits.{cons_bytes, no_bytes, line_read}

take_bytes : (n : ℕ) (xs : List ℕ) → IsBytes xs → IsBytes (take n xs)
take_bytes zero xs h = no_bytes
take_bytes (suc n) [] h = no_bytes
take_bytes (suc n) (x ∷ xs) h = cons_bytes x (take n xs) (h 0) (take_bytes n xs (λ i. h (suc i)))

drop_bytes : (n : ℕ) (xs : List ℕ) → IsBytes xs → IsBytes (drop n xs)
drop_bytes zero xs h = h
drop_bytes (suc n) [] h = no_bytes
drop_bytes (suc n) (x ∷ xs) h = drop_bytes n xs (λ i. h (suc i))

-- the data of record n
abbrev pub row : ℕ → List ℕ → List ℕ
row n bytes = take 16 (drop (16 * n) bytes)

take_few : (n : ℕ) (xs : List ℕ) → length (take n xs) ≤ n
take_few zero xs = omega arith
take_few (suc n) [] = omega arith
take_few (suc n) (x ∷ xs) = let e = take_few n xs in omega (arith, e)

pub row_few : (n : ℕ) (bytes : List ℕ) → length (row n bytes) ≤ 16
row_few n bytes = take_few 16 (drop (16 * n) bytes)

any_length : (n : ℕ) → has_length 0 n ≡ true
any_length n = refl

row_writable : (n : ℕ) (bytes : List ℕ) → IsBytes bytes → IsWritable 0 (16 * n % 65536) (row n bytes)
row_writable n bytes h =
    let few = row_few n bytes in
    record {
      kind_known = omega arith;
      offset_fits = omega arith;
      count_fits = omega arith;
      count_suits = any_length (length (row n bytes));
      are_bytes = take_bytes 16 (drop (16 * n) bytes) (drop_bytes (16 * n) bytes h);
    }

base_writable : IsWritable 4 0 (0 ∷ 1 ∷ [])
base_writable = record {
  kind_known = omega arith;
  offset_fits = omega arith;
  count_fits = omega arith;
  count_suits = refl;
  are_bytes = cons_bytes 0 (1 ∷ []) (omega arith) (cons_bytes 1 [] (omega arith) no_bytes);
}

end_writable : IsWritable 1 0 []
end_writable = record {
  kind_known = omega arith;
  offset_fits = omega arith;
  count_fits = omega arith;
  count_suits = refl;
  are_bytes = no_bytes;
}

-- the lines of the base, where it stands
abbrev pub base_lines : Bool → List Line
base_lines b = if b then Record 4 0 (0 ∷ 1 ∷ []) ∷ [] else []

base_read : (b : Bool) (rest : List ℕ) → lines_of ((if b then record_line 4 0 (0 ∷ 1 ∷ []) else []) ++ rest) ≡ base_lines b ++ lines_of rest
base_read true rest = line_read 4 0 (0 ∷ 1 ∷ []) rest base_writable
base_read false rest = refl

-- the lines of record n
abbrev pub lines_at : ℕ → List ℕ → List Line
lines_at n bytes = base_lines (eqb n 4096) ++ Record 0 (16 * n % 65536) (row n bytes) ∷ []

at_read : (n : ℕ) (bytes rest : List ℕ) → IsBytes bytes → lines_of (record_at n bytes ++ rest) ≡ lines_at n bytes ++ lines_of rest
unfolding record_at
at_read n bytes rest h =
    let line = record_line 0 (16 * n % 65536) (row n bytes) in
    let base = if eqb n 4096 then record_line 4 0 (0 ∷ 1 ∷ []) else [] in
    ap lines_of (append_assoc base line rest)
    ∙ (base_read (eqb n 4096) (line ++ rest)
    ∙ (ap (λ ls. base_lines (eqb n 4096) ++ ls) (line_read 0 (16 * n % 65536) (row n bytes) rest (row_writable n bytes h))
    ∙ sym (append_assoc (base_lines (eqb n 4096)) (Record 0 (16 * n % 65536) (row n bytes) ∷ []) (lines_of rest))))

-- the lines of the n first records
abbrev pub lines_to : ℕ → List ℕ → List Line
lines_to zero bytes = []
lines_to (suc n) bytes = lines_to n bytes ++ lines_at n bytes

to_read : (n : ℕ) (bytes rest : List ℕ) → IsBytes bytes → lines_of (records_to n bytes ++ rest) ≡ lines_to n bytes ++ lines_of rest
to_read zero bytes rest h = refl
to_read (suc n) bytes rest h =
    ap lines_of (append_assoc (records_to n bytes) (record_at n bytes) rest)
    ∙ (to_read n bytes (record_at n bytes ++ rest) h
    ∙ (ap (λ ls. lines_to n bytes ++ ls) (at_read n bytes rest h)
    ∙ sym (append_assoc (lines_to n bytes) (lines_at n bytes) (lines_of rest))))

end_read : lines_of (record_line 1 0 []) ≡ Record 1 0 [] ∷ Blank ∷ []
unfolding line_of
end_read = ap lines_of (sym (append-nil (record_line 1 0 []))) ∙ line_read 1 0 [] [] end_writable

-- all lines: those of the records, the end record, and nothing behind the last LF
pub all_read : (n : ℕ) (bytes : List ℕ) → IsBytes bytes → lines_of (records_to n bytes ++ record_line 1 0 []) ≡ lines_to n bytes ++ Record 1 0 [] ∷ Blank ∷ []
all_read n bytes h = to_read n bytes (record_line 1 0 []) h ∙ ap (λ ls. lines_to n bytes ++ ls) end_read
