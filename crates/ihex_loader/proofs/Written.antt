-- A record that was written is read.
use Rattle.std.proofs.Common.{◌≡◌, ℕ, zero, suc, ◌+◌, ◌-◌, ◌*◌, ◌/◌, ◌%◌, ◌<◌, ◌≤◌, ◌&&◌, not, Bool, true, false, cond, eqb, ltb, List, [], ◌∷◌, ◌++◌, length, sum, take, length-append, refl, ap, ◌∙◌, arith}
use Rattle.std.proofs.Math.Seq.{take-append_seam}
use Rattle.std.proofs.lemmas.Bool.Decides.{nat_tests}
use Rattle.std.proofs.lemmas.List.Sums.{sum_by_push}
use Rattle.hex.specs.Hex.{IsBytes, encode_lower, encode_upper}
use Rattle.hex.proofs.HexLemmas.{decode_of-encode_lower, decode_of-encode_upper}
use Rattle.ihex_loader.specs.declared.fault.LineFault.TheVariants.{NotARecord, BadSum, BadType, BadLength}
use Rattle.ihex_loader.specs.Line.{Faulty, Record, has_length, record_of, record_of_pairs, data_of, line_of}
use Rattle.ihex_loader.specs.Written.{before_check, check_byte, record_bytes, IsWritable}

bytes-cons : (x : ℕ) (xs : List ℕ) → x < 256 → IsBytes xs → IsBytes (x ∷ xs)
bytes-cons x xs lt h zero = lt
bytes-cons x xs lt h (suc i) = h i

bytes-last : (xs : List ℕ) (x : ℕ) → IsBytes xs → x < 256 → IsBytes (xs ++ x ∷ [])
bytes-last [] x h lt = bytes-cons x [] lt h
bytes-last (y ∷ xs) x h lt = bytes-cons y (xs ++ x ∷ []) (h 0) (bytes-last xs x (λ i. h (suc i)) lt)

sum-last : (xs : List ℕ) (x : ℕ) → sum (xs ++ x ∷ []) ≡ sum xs + x
sum-last xs x = sum_by_push (λ n. n) xs x

checked : (s : ℕ) → (s + (256 - s % 256) % 256) % 256 ≡ 0
checked s = omega arith

steps : (a b c d : Bool) (k o : ℕ) (bytes : List ℕ) → a ≡ false → b ≡ true → c ≡ false → d ≡ true
    → cond a (Faulty NotARecord) (cond (not b) (Faulty BadSum) (cond c (Faulty BadType) (cond (not d) (Faulty BadLength) (Record k o bytes)))) ≡ Record k o bytes
steps a b c d k o bytes ea eb ec ed = rw (ea, eb, ec, ed) refl

not_below : (m n : ℕ) → n ≤ m → ltb m n ≡ false
not_below m n h = grind (arith, nat_tests)

equal : (m n : ℕ) → m ≡ n → eqb m n ≡ true
equal m n h = grind (arith, nat_tests)

record_of-bytes : (kind offset : ℕ) (bytes : List ℕ) → IsWritable kind offset bytes → record_of (record_bytes kind offset bytes) ≡ Record kind offset bytes
record_of-bytes kind offset bytes w =
    let front = before_check kind offset bytes in
    let all = record_bytes kind offset bytes in
    let len : length all ≡ length bytes + 5 = omega (arith, length-append front (check_byte front ∷ [])) in
    let count : length all - 5 ≡ length bytes = omega arith in
    let total : sum all % 256 ≡ 0 = ap (λ n. n % 256) (sum-last front (check_byte front)) ∙ checked (sum front) in
    let some : ltb (length all) 5 ≡ false = not_below (length all) 5 (omega arith) in
    let known : ltb 5 kind ≡ false = not_below 5 kind w.kind_known in
    let suits : (eqb (length bytes) (length all - 5) && has_length kind (length all - 5)) ≡ true = rw (count, equal (length bytes) (length bytes) refl) w.count_suits in
    let back : 256 * (offset / 256) + offset % 256 ≡ offset = omega arith in
    let end : length all - 1 - 4 ≡ length bytes = omega arith in
    let kept : data_of all ≡ bytes = ap (λ n. take n (bytes ++ check_byte front ∷ [])) end ∙ take-append_seam bytes (check_byte front ∷ []) in
    steps _ _ _ _ kind (256 * (offset / 256) + offset % 256) (data_of all) some (equal (sum all % 256) 0 total) known suits
    ∙ (ap (λ o. Record kind o (data_of all)) back ∙ ap (Record kind offset) kept)

record_bytes-bytes : (kind offset : ℕ) (bytes : List ℕ) → IsWritable kind offset bytes → IsBytes (record_bytes kind offset bytes)
record_bytes-bytes kind offset bytes w =
    let h = w.offset_fits in
    let k = w.kind_known in
    let n = w.count_fits in
    let front : IsBytes (before_check kind offset bytes) =
    bytes-cons (length bytes) (offset / 256 ∷ offset % 256 ∷ kind ∷ bytes) (omega arith)
    (bytes-cons (offset / 256) (offset % 256 ∷ kind ∷ bytes) (omega arith)
    (bytes-cons (offset % 256) (kind ∷ bytes) (omega arith) (bytes-cons kind bytes (omega arith) w.are_bytes))) in
    bytes-last (before_check kind offset bytes) (check_byte (before_check kind offset bytes)) front (omega arith)

pub read_upper : (kind offset : ℕ) (bytes : List ℕ) → IsWritable kind offset bytes → line_of (58 ∷ encode_upper (record_bytes kind offset bytes)) ≡ Record kind offset bytes
unfolding line_of
read_upper kind offset bytes w =
    ap record_of_pairs (decode_of-encode_upper (record_bytes kind offset bytes) (record_bytes-bytes kind offset bytes w)) ∙ record_of-bytes kind offset bytes w

pub read_lower : (kind offset : ℕ) (bytes : List ℕ) → IsWritable kind offset bytes → line_of (58 ∷ encode_lower (record_bytes kind offset bytes)) ≡ Record kind offset bytes
unfolding line_of
read_lower kind offset bytes w =
    ap record_of_pairs (decode_of-encode_lower (record_bytes kind offset bytes) (record_bytes-bytes kind offset bytes w)) ∙ record_of-bytes kind offset bytes w
