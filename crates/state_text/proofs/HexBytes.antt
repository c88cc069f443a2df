-- Bytes are read as they are written, and written as they were read.
use Rattle.std.proofs.Common.{◌≡◌, ℕ, zero, suc, ◌+◌, ◌*◌, ◌/◌, ◌%◌, ◌<◌, Bool, true, false, eqb, ◌||◌, List, [], ◌∷◌, length, Option, Some, None, Result, Ok, Err, refl, sym, ◌∙◌, arith}
use Rattle.std.specs.List.{list_any}
use Rattle.std.specs.Prelude.{slice_index}
use Rattle.std.proofs.lemmas.Bool.{agree_below_at, eqb-true}
use Rattle.hex.specs.Hex.{IsBytes, encode_with, encode_upper, upper_digits, decode_sized, decode_of, decode_pairs, pair_value, value_at, digit_or_error, hex_digit_value, ◌>>=◌}
use Rattle.hex.specs.declared.error.FromHexError.{FromHexError}
use Rattle.hex.proofs.HexLemmas.{decode_sized-ok, decode_sized-twice, decode_of-ok, decode_of-even, decode_of-encode_upper, length-encode_with}
use Rattle.state_text.specs.Parts.{is_lower}
use Rattle.state_text.specs.Reading.{bytes_in}
use Rattle.state_text.proofs.Taken.{bytes_taken, bytes_count}
use Rattle.state_text.proofs.Visible.{AreBytes}

bind_ok : {A B : Type 0} (r : Result A FromHexError) (f : A → Result B FromHexError) (y : B) → (r >>= f) ≡ Ok y → (x : A) × (r ≡ Ok x) × (f x ≡ Ok y)
bind_ok (Ok x) f y e = (x, refl, e)
bind_ok (Err d) f y e = absurd cc

-- a digit that is no lower-case letter is the digit of its value
abbrev own_digit : ℕ → Bool
own_digit c = elim (hex_digit_value c) [ None ↦ true | Some v ↦ is_lower c || eqb (slice_index upper_digits v) c ]

or_right : (x y : Bool) → x ≡ false → (x || y) ≡ true → y ≡ true
or_right true y e h = absurd cc
or_right false y e h = h

or_parts : (x y : Bool) → (x || y) ≡ false → (x ≡ false) × (y ≡ false)
or_parts true y h = absurd cc
or_parts false y h = (refl, h)

digit_small : (c v : ℕ) → hex_digit_value c ≡ Some v → (c < 103) × (v < 16)
digit_small c v h = (grind (arith), grind (arith))

digit_same : (c v : ℕ) → hex_digit_value c ≡ Some v → is_lower c ≡ false → slice_index upper_digits v ≡ c
digit_same c v h upper =
    let t : own_digit c ≡ true = agree_below_at own_digit (λ n. true) 103 c refl (digit_small c v h).0 in
    let k : (is_lower c || eqb (slice_index upper_digits v) c) ≡ true = go (hex_digit_value c) h t in
    eqb-true (slice_index upper_digits v) c (or_right (is_lower c) (eqb (slice_index upper_digits v) c) upper k)
  where
    go : (o : Option ℕ) → o ≡ Some v → elim o [ None ↦ true | Some w ↦ is_lower c || eqb (slice_index upper_digits w) c ] ≡ true → (is_lower c || eqb (slice_index upper_digits v) c) ≡ true
    go o e t = rw e at t

digit_read : (c i : ℕ) (o : Option ℕ) (v : ℕ) → digit_or_error c i o ≡ Ok v → o ≡ Some v
digit_read c i (Some w) v h = cc
digit_read c i None v h = absurd cc

abbrev done : {A : Type 0} → A → Result A FromHexError
done x = Ok x

ok_is : {A : Type 0} (x y : A) → done x ≡ done y → x ≡ y
ok_is x y e = cc

pairs_same : (i : ℕ) (s bytes : List ℕ) → decode_pairs i s ≡ Ok bytes → list_any is_lower s ≡ false → encode_upper bytes ≡ s
unfolding decode_pairs encode_with
pairs_same i [] bytes h upper = rw (← ok_is [] bytes h) refl
pairs_same i (a ∷ []) bytes h upper = absurd cc
pairs_same i (a ∷ b ∷ rest) bytes h upper =
    let p0 = bind_ok (pair_value a b i) _ bytes h in
    let p1 = bind_ok (value_at a i) _ p0.0 p0.1 in
    let p2 = bind_ok (value_at b (i + 1)) _ p0.0 p1.2 in
    let p3 = bind_ok (decode_pairs (i + 2) rest) _ bytes p0.2 in
    let ua = or_parts (is_lower a) (list_any is_lower (b ∷ rest)) upper in
    let ub = or_parts (is_lower b) (list_any is_lower rest) ua.1 in
    let ih = pairs_same (i + 2) rest p3.0 p3.1 ub.1 in
    let e : p0.0 ∷ p3.0 ≡ bytes = ok_is (p0.0 ∷ p3.0) bytes p3.2 in
    let byte : p1.0 * 16 + p2.0 ≡ p0.0 = ok_is (p1.0 * 16 + p2.0) p0.0 p2.2 in
    let va : hex_digit_value a ≡ Some p1.0 = digit_read a i (hex_digit_value a) p1.0 p1.1 in
    let vb : hex_digit_value b ≡ Some p2.0 = digit_read b (i + 1) (hex_digit_value b) p2.0 p2.1 in
    let sa = (digit_small a p1.0 va).1 in
    let sb = (digit_small b p2.0 vb).1 in
    let high : p0.0 / 16 ≡ p1.0 = omega (arith, byte, sa, sb) in
    let low : p0.0 % 16 ≡ p2.0 = omega (arith, byte, sa, sb) in
    rw (← e, high, low, digit_same a p1.0 va ua.0, digit_same b p2.0 vb ub.0, ih) refl

are_bytes : (xs : List ℕ) → IsBytes xs → AreBytes xs
are_bytes [] h = tt
are_bytes (x ∷ xs) h = (h 0, are_bytes xs (λ i. h (suc i)))

is_bytes : (xs : List ℕ) → AreBytes xs → IsBytes xs
is_bytes [] h i = omega arith
is_bytes (x ∷ xs) h zero = h.0
is_bytes (x ∷ xs) h (suc i) = is_bytes xs h.1 i

-- what was read
pub bytes_of : (number count : ℕ) (part bytes : List ℕ) → bytes_in number count part ≡ Ok bytes → (encode_upper bytes ≡ part) × (length bytes ≡ count) × AreBytes bytes
bytes_of number count part bytes h =
    let t = bytes_taken number count part bytes h in
    let twice = decode_sized-ok part count bytes t.1 in
    let of : decode_of part ≡ Ok bytes = sym (decode_sized-twice part count twice) ∙ t.1 in
    let pairs : decode_pairs 0 part ≡ Ok bytes = sym (decode_of-even part (omega (arith, twice))) ∙ of in
    (pairs_same 0 part bytes pairs t.0, bytes_count number count part bytes h, are_bytes bytes (decode_of-ok part bytes of).3)

glyph_upper : (d : ℕ) → d < 16 → is_lower (slice_index upper_digits d) ≡ false
glyph_upper d lt = agree_below_at (λ n. is_lower (slice_index upper_digits n)) (λ n. false) 16 d refl lt

or_from : (x y : Bool) → x ≡ false → y ≡ false → (x || y) ≡ false
or_from true y h k = absurd cc
or_from false y h k = k

no_lower : (bytes : List ℕ) → AreBytes bytes → list_any is_lower (encode_upper bytes) ≡ false
unfolding encode_with
no_lower [] h = refl
no_lower (b ∷ bytes) h =
    let lt = h.0 in
    or_from (is_lower (slice_index upper_digits (b / 16))) (is_lower (slice_index upper_digits (b % 16)) || list_any is_lower (encode_upper bytes)) (glyph_upper (b / 16) (omega (arith, lt)))
    (or_from (is_lower (slice_index upper_digits (b % 16))) (list_any is_lower (encode_upper bytes)) (glyph_upper (b % 16) (omega (arith, lt))) (no_lower bytes h.1))

-- what is written
pub bytes_again : (number count : ℕ) (bytes : List ℕ) → length bytes ≡ count → AreBytes bytes → bytes_in number count (encode_upper bytes) ≡ Ok bytes
unfolding bytes_in
bytes_again number count bytes len h =
    let twice : length (encode_upper bytes) ≡ 2 * count = omega (arith, len, length-encode_with upper_digits bytes) in
    let back : decode_sized (encode_upper bytes) count ≡ Ok bytes = decode_sized-twice (encode_upper bytes) count twice ∙ decode_of-encode_upper bytes (is_bytes bytes h) in
    rw (no_lower bytes h, back) refl
