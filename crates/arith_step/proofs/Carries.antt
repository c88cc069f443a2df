-- The flags of sums, differences and shifts from tables, put into a flags byte at once: tests over all carries and
-- bytes.
use Rattle.std.proofs.Common.{◌≡◌, ℕ, ◌+◌, ◌-◌, ◌*◌, ◌/◌, ◌%◌, ◌^◌, ◌<◌, ◌≤◌, ◌==◌, ◌&&◌, nat_le, nat_lt, not, List, Bool, true, false, if◌then◌else◌, refl, get_or, bit_and, bit_or, bit_xor, ap, ◌∙◌, arith, pos, ◌+ℤ◌, ◌-ℤ◌}
use Rattle.std.proofs.lemmas.Bool.{and_parts, eqb-true}
use Rattle.std.proofs.lemmas.Bool.Decides.{nat_tests}
use Rattle.std.proofs.lemmas.Int.{ints}
use Rattle.std.proofs.lemmas.Nat.{xor_mod, xor_shr}
use Rattle.avr_base.specs.Flags.{C, Z, has_flag, with_flag}
use Rattle.avr_base.specs.declared.sreg.Sreg.{Sreg}
use Rattle.avr_base.proofs.Computed.{all_from, all_from-at}
use Rattle.arith_step.specs.Bytes.{added, shifted, subtracted}
use Rattle.arith_step.specs.Words.{added_word, subtracted_word}
use Rattle.arith_step.specs.Whole.{one_if, overflows, signed, signs_of, with_carries, with_result, with_sign, xor}
use Rattle.arith_step.specs.declared.flags.TheConstants.{FLAGS}
use Rattle.arith_step.specs.declared.shifts.TheConstants.{RIGHT}
use Rattle.arith_step.specs.declared.words.TheConstants.{DIFFERENCE_FLAGS, SUM_FLAGS}
use Rattle.arith_step.proofs.Signs.{difference_by_signs, sum_by_signs}

-- ---- a test of a truth value and of a byte
abbrev both : (Bool → Bool) → Bool
both p = p true && p false

at : (p : Bool → Bool) (b : Bool) → both p ≡ true → p b ≡ true
at p true h = (and_parts _ _ h).0
at p false h = (and_parts _ _ h).1

abbrev bytes : (ℕ → Bool) → Bool
bytes p = all_from p 0 256

at_byte : (p : ℕ → Bool) (s : ℕ) → bytes p ≡ true → s < 256 → p s ≡ true
at_byte p s h f = all_from-at p 0 256 s h (omega arith) (omega arith)

at_most_one : (b : Bool) → one_if b ≤ 1
at_most_one true = omega arith
at_most_one false = omega arith

-- ---- flags put at once
-- C, H, V and what V does to S
abbrev carry_flags : Bool → Bool → Bool → ℕ
carry_flags c h v = (if c then 1 else 0) + (if h then 32 else 0) + (if v then 24 else 0)

abbrev byte_fits : Bool → Bool → Bool → Bool → Bool → ℕ → Bool
byte_fits n z v c h s = bit_or (bit_and s 192) (bit_xor (signs_of n z false) (carry_flags c h v)) == with_sign n z v (with_carries c h s)

byte_fit : both (λ n. both (λ z. both (λ v. both (λ c. both (λ h. bytes (byte_fits n z v c h)))))) ≡ true
unfolding with_sign with_flag with_carries
byte_fit = refl

byte_put : (n z v c h : Bool) (s : ℕ) → s < 256 → bit_or (bit_and s 192) (bit_xor (signs_of n z false) (carry_flags c h v)) ≡ with_sign n z v (with_carries c h s)
byte_put n z v c h s f =
    let e = at (λ n. both (λ z. both (λ v. both (λ c. both (λ h. bytes (byte_fits n z v c h)))))) n byte_fit in
    let e = at (λ z. both (λ v. both (λ c. both (λ h. bytes (byte_fits n z v c h))))) z e in
    let e = at (λ v. both (λ c. both (λ h. bytes (byte_fits n z v c h)))) v e in
    let e = at (λ c. both (λ h. bytes (byte_fits n z v c h))) c e in
    let e = at (λ h. bytes (byte_fits n z v c h)) h e in
    eqb-true _ _ (at_byte (byte_fits n z v c h) s e f)

-- ---- the tables of carries and of borrows, by the high halves of two bytes and of their sum or difference
abbrev entry : ℕ → ℕ → ℕ → ℕ → ℕ
entry from x y z = get_or FLAGS (from + bit_xor (bit_xor x y % 32) z) 0

by_halves : (from a b whole : ℕ) → get_or FLAGS (from + bit_xor (bit_xor a b) whole / 16 % 32) 0 ≡ entry from (a / 16) (b / 16) (whole / 16 % 32)
by_halves from a b whole =
    let e = xor_shr (bit_xor a b) whole 4 ∙ ap (λ x. bit_xor x (whole / 2 ^ 4)) (xor_shr a b 4) in
    ap (λ i. get_or FLAGS (from + i) 0) (ap (λ i. i % 32) e ∙ xor_mod (bit_xor (a / 16) (b / 16)) (whole / 16) 5)

abbrev halves : (ℕ → ℕ → Bool) → Bool
halves p = all_from (λ x. all_from (p x) 0 16) 0 16

at_halves : (p : ℕ → ℕ → Bool) (x y : ℕ) → halves p ≡ true → x < 16 → y < 16 → p x y ≡ true
at_halves p x y h f g = all_from-at (p x) 0 16 y (all_from-at (λ x. all_from (p x) 0 16) 0 16 x h (omega arith) (omega arith)) (omega arith) (omega arith)

abbrev high : ℕ → Bool
high x = nat_le 8 (x % 16)

abbrev sum_entry : Bool → ℕ → ℕ → ℕ → ℕ
sum_entry h x y z = carry_flags (nat_le 16 z) h (xor (high x) (high z) && xor (high y) (high z))

abbrev difference_entry : Bool → ℕ → ℕ → ℕ → ℕ
difference_entry h x y z = carry_flags (nat_lt z 16) h (xor (high x) (high y) && xor (high x) (high z))

abbrev sum_fits : Bool → ℕ → ℕ → Bool
sum_fits h x y = let z = x + y + one_if h in entry 512 x y z == sum_entry h x y z

abbrev difference_fits : Bool → ℕ → ℕ → Bool
difference_fits h x y = let z = x + 16 - (y + one_if h) in entry 544 x y z == difference_entry h x y z

sum_fit : both (λ h. halves (sum_fits h)) ≡ true
sum_fit = refl

difference_fit : both (λ h. halves (difference_fits h)) ≡ true
difference_fit = refl

sum_at : (h : Bool) (x y z : ℕ) → x < 16 → y < 16 → z ≡ x + y + one_if h → entry 512 x y z ≡ sum_entry h x y z
sum_at h x y z f g e = rw e (eqb-true _ _ (at_halves (sum_fits h) x y (at (λ h. halves (sum_fits h)) h sum_fit) f g))

difference_at : (h : Bool) (x y z : ℕ) → x < 16 → y < 16 → z ≡ x + 16 - (y + one_if h) → entry 544 x y z ≡ difference_entry h x y z
difference_at h x y z f g e = rw e (eqb-true _ _ (at_halves (difference_fits h) x y (at (λ h. halves (difference_fits h)) h difference_fit) f g))

-- the sign of a byte is that of its high half
sign_high : (n : ℕ) → high (n / 16 % 32) ≡ nat_le 128 (n % 256)
sign_high n = grind (arith, nat_tests)

sign_of : (a : ℕ) → a < 256 → high (a / 16) ≡ nat_le 128 a
sign_of a f = grind (arith, nat_tests)

-- ---- sums
sum_high : (a b : ℕ) (carry : Bool) → a < 256 → b < 256 → (a + b + one_if carry) / 16 % 32 ≡ a / 16 + b / 16 + one_if (nat_le 16 (a % 16 + b % 16 + one_if carry))
sum_high a b true f g = grind (arith, nat_tests)
sum_high a b false f g = grind (arith, nat_tests)

sum_carries : (a b : ℕ) (carry : Bool) → a < 256 → b < 256 → nat_le 16 ((a + b + one_if carry) / 16 % 32) ≡ nat_le 256 (a + b + one_if carry)
sum_carries a b true f g = grind (arith, nat_tests)
sum_carries a b false f g = grind (arith, nat_tests)

pub sum_entry_is : (a b : ℕ) (carry : Bool) → a < 256 → b < 256 →
    let sum = a + b + one_if carry in
    let v = overflows 128 (signed 128 a +ℤ signed 128 b +ℤ pos (one_if carry)) in
    get_or FLAGS (512 + bit_xor (bit_xor a b) sum / 16 % 32) 0 ≡ carry_flags (nat_le 256 sum) (nat_le 16 (a % 16 + b % 16 + one_if carry)) v
sum_entry_is a b carry f g =
    let sum = a + b + one_if carry in
    let h = nat_le 16 (a % 16 + b % 16 + one_if carry) in
    let v : (xor (high (a / 16)) (high (sum / 16 % 32)) && xor (high (b / 16)) (high (sum / 16 % 32))) ≡ overflows 128 (signed 128 a +ℤ signed 128 b +ℤ pos (one_if carry)) =
    rw (sign_high sum, sign_of a f, sign_of b g) (sum_by_signs a b carry f g) in
    by_halves 512 a b sum
    ∙ sum_at h (a / 16) (b / 16) (sum / 16 % 32) (omega arith) (omega arith) (sum_high a b carry f g)
    ∙ (λ i. carry_flags (sum_carries a b carry f g i) h (v i))

pub sum_put : (a b : ℕ) (carry : Bool) (s : Sreg) (sum signs carries : ℕ) → a < 256 → b < 256 → s.bits < 256 → sum ≡ a + b + one_if carry
    → signs ≡ signs_of (nat_le 128 (sum % 256)) (sum % 256 == 0) false → carries ≡ get_or FLAGS (512 + bit_xor (bit_xor a b) sum / 16 % 32) 0
    → (let t : Sreg = record { bits = bit_or (bit_and s.bits 192) (bit_xor signs carries) } in (sum % 256, t)) ≡ added a b carry s
unfolding added
sum_put a b carry s sum signs carries f g h e i j =
    let all = a + b + one_if carry in
    let r = all % 256 in
    let v = overflows 128 (signed 128 a +ℤ signed 128 b +ℤ pos (one_if carry)) in
    let half = nat_le 16 (a % 16 + b % 16 + one_if carry) in
    let k : signs ≡ signs_of (nat_le 128 r) (r == 0) false = i ∙ ap (λ n. signs_of (nat_le 128 (n % 256)) (n % 256 == 0) false) e in
    let l : carries ≡ carry_flags (nat_le 256 all) half v = j ∙ ap (λ n. get_or FLAGS (512 + bit_xor (bit_xor a b) n / 16 % 32) 0) e ∙ sum_entry_is a b carry f g in
    let bits : bit_or (bit_and s.bits 192) (bit_xor signs carries) ≡ with_result 128 r v (with_carries (nat_le 256 all) half s.bits) =
    (λ x. bit_or (bit_and s.bits 192) (bit_xor (k x) (l x))) ∙ byte_put (nat_le 128 r) (r == 0) v (nat_le 256 all) half s.bits h in
    (λ x. (let t : Sreg = record { bits = bits x } in (e x % 256, t)))

-- ---- differences
module _ (a b : ℕ) (borrow : Bool) (whole : ℕ) (f : a < 256) (g : b < 256) (is : whole ≡ a + 256 - (b + one_if borrow)) where
  abbrev less : ℕ
  less = b + one_if borrow

  less_by : one_if borrow ≤ 1
  less_by = at_most_one borrow

  abbrev half : Bool
  half = nat_lt (a % 16) (b % 16 + one_if borrow)

  difference_low : whole % 256 ≡ (a + 256 - less) % 256
  difference_low = ap (λ n. n % 256) is

  difference_high : whole / 16 % 32 ≡ a / 16 + 16 - (b / 16 + one_if half)
  difference_high = grind (arith, nat_tests, less_by)

  difference_borrows : nat_lt (whole / 16 % 32) 16 ≡ nat_lt a less
  difference_borrows = grind (arith, nat_tests, less_by)

  difference_entry_is : get_or FLAGS (544 + bit_xor (bit_xor a b) whole / 16 % 32) 0 ≡ carry_flags (nat_lt a less) half (overflows 128 (signed 128 a -ℤ signed 128 b -ℤ pos (one_if borrow)))
  difference_entry_is =
      let sign = sign_high whole ∙ ap (nat_le 128) difference_low in
      let v : (xor (high (a / 16)) (high (b / 16)) && xor (high (a / 16)) (high (whole / 16 % 32))) ≡ overflows 128 (signed 128 a -ℤ signed 128 b -ℤ pos (one_if borrow)) =
      rw (sign, sign_of a f, sign_of b g) (difference_by_signs a b borrow f g) in
      by_halves 544 a b whole
      ∙ difference_at half (a / 16) (b / 16) (whole / 16 % 32) (omega arith) (omega arith) difference_high
      ∙ (λ i. carry_flags (difference_borrows i) half (v i))

  pub difference_put : (keep_z : Bool) (s : Sreg) (signs borrows : ℕ) → s.bits < 256
      → signs ≡ signs_of (nat_le 128 (whole % 256)) (if keep_z then has_flag s.bits Z && whole % 256 == 0 else whole % 256 == 0) false
      → borrows ≡ get_or FLAGS (544 + bit_xor (bit_xor a b) whole / 16 % 32) 0
      → (let t : Sreg = record { bits = bit_or (bit_and s.bits 192) (bit_xor signs borrows) } in (whole % 256, t)) ≡ subtracted a b borrow keep_z s
  unfolding subtracted
  difference_put keep_z s signs borrows h i j =
      let r = (a + 256 - less) % 256 in
      let v = overflows 128 (signed 128 a -ℤ signed 128 b -ℤ pos (one_if borrow)) in
      let z = (if keep_z then has_flag s.bits Z && r == 0 else r == 0) in
      let k : signs ≡ signs_of (nat_le 128 r) z false = i ∙ ap (λ n. signs_of (nat_le 128 n) (if keep_z then has_flag s.bits Z && n == 0 else n == 0) false) difference_low in
      let l = j ∙ difference_entry_is in
      let bits : bit_or (bit_and s.bits 192) (bit_xor signs borrows) ≡ with_sign (nat_le 128 r) z v (with_carries (nat_lt a less) half s.bits) =
      (λ x. bit_or (bit_and s.bits 192) (bit_xor (k x) (l x))) ∙ byte_put (nat_le 128 r) z v (nat_lt a less) half s.bits h in
      (λ x. (let t : Sreg = record { bits = bits x } in (difference_low x, t)))

abbrev keeps_zero : Bool → Bool → ℕ → Bool
keeps_zero n z s = bit_and (signs_of n z false) (bit_or s 253) == signs_of n (has_flag s Z && z) false

keep_zero : both (λ n. both (λ z. bytes (keeps_zero n z))) ≡ true
keep_zero = refl

pub kept_zero : (n z : Bool) (s : ℕ) → s < 256 → bit_and (signs_of n z false) (bit_or s 253) ≡ signs_of n (has_flag s Z && z) false
kept_zero n z s f =
    let e = at (λ n. both (λ z. bytes (keeps_zero n z))) n keep_zero in
    eqb-true _ _ (at_byte (keeps_zero n z) s (at (λ z. bytes (keeps_zero n z)) z e) f)

-- ---- shifts to the right, by the nine bits that are shifted
abbrev shift_flags : Bool → Bool → Bool → ℕ
shift_flags n z c = one_if c + signs_of n z (xor n c)

abbrev right : ℕ → Bool
right w = get_or RIGHT w 0 == shift_flags (nat_le 128 (w / 2)) (w / 2 == 0) (w % 2 == 1)

all_right : all_from right 0 512 ≡ true
all_right = refl

abbrev shift_fits : Bool → Bool → Bool → ℕ → Bool
shift_fits n z c s = bit_or (bit_and s 224) (shift_flags n z c) == with_sign n z (xor n c) (with_flag s C c)

shift_fit : both (λ n. both (λ z. both (λ c. bytes (shift_fits n z c)))) ≡ true
unfolding with_sign with_flag
shift_fit = refl

put_shift : (n z c : Bool) (s : ℕ) → s < 256 → bit_or (bit_and s 224) (shift_flags n z c) ≡ with_sign n z (xor n c) (with_flag s C c)
put_shift n z c s f =
    let e = at (λ n. both (λ z. both (λ c. bytes (shift_fits n z c)))) n shift_fit in
    let e = at (λ z. both (λ c. bytes (shift_fits n z c))) z e in
    eqb-true _ _ (at_byte (shift_fits n z c) s (at (λ c. bytes (shift_fits n z c)) c e) f)

pub shift_put : (top : Bool) (a : ℕ) (s : Sreg) (w : ℕ) → a < 256 → s.bits < 256 → w ≡ a + 256 * one_if top
    → (let t : Sreg = record { bits = bit_or (bit_and s.bits 224) (get_or RIGHT w 0) } in (w / 2, t)) ≡ shifted top a s
unfolding shifted
shift_put top a s w f h e =
    let below = at_most_one top in
    let half : w / 2 ≡ a / 2 + 128 * one_if top = omega (arith, e) in
    let low : w % 2 ≡ a % 2 = omega (arith, e) in
    let bits = ap (bit_or (bit_and s.bits 224)) (eqb-true _ _ (all_from-at right 0 512 w all_right (omega arith) (omega (arith, e, below))))
    ∙ put_shift (nat_le 128 (w / 2)) (w / 2 == 0) (w % 2 == 1) s.bits h
    ∙ (λ i. with_result 128 (half i) (xor (nat_le 128 (half i)) (low i == 1)) (with_flag s.bits C (low i == 1))) in
    (λ i. (let t : Sreg = record { bits = bits i } in (half i, t)))

-- ---- words, by the signs of the word and of the result
abbrev word_at : List ℕ → Bool → Bool → Bool → ℕ → ℕ
word_at table a r z s = bit_or (bit_and s 224) (bit_or (get_or table (one_if a * 2 + one_if r) 0) (if z then 2 else 0))

abbrev sum_word_fits : Bool → Bool → Bool → ℕ → Bool
sum_word_fits a r z s = word_at SUM_FLAGS a r z s == with_sign r z (not a && r) (with_flag s C (a && not r))

abbrev difference_word_fits : Bool → Bool → Bool → ℕ → Bool
difference_word_fits a r z s = word_at DIFFERENCE_FLAGS a r z s == with_sign r z (a && not r) (with_flag s C (not a && r))

sum_word_fit : both (λ a. both (λ r. both (λ z. bytes (sum_word_fits a r z)))) ≡ true
unfolding with_sign with_flag
sum_word_fit = refl

difference_word_fit : both (λ a. both (λ r. both (λ z. bytes (difference_word_fits a r z)))) ≡ true
unfolding with_sign with_flag
difference_word_fit = refl

put_word : (p : Bool → Bool → Bool → ℕ → Bool) → both (λ a. both (λ r. both (λ z. bytes (p a r z)))) ≡ true → (a r z : Bool) (s : ℕ) → s < 256 → p a r z s ≡ true
put_word p h a r z s f =
    let e = at (λ a. both (λ r. both (λ z. bytes (p a r z)))) a h in
    let e = at (λ r. both (λ z. bytes (p a r z))) r e in
    at_byte (p a r z) s (at (λ z. bytes (p a r z)) z e) f

word_sign : (n : ℕ) → n < 65536 → n / 32768 ≡ one_if (nat_le 32768 n)
word_sign n f = grind (arith, nat_tests)

sum_word_carries : (a k : ℕ) → a < 65536 → k < 256 → (nat_le 32768 a && not (nat_le 32768 ((a + k) % 65536))) ≡ nat_le 65536 (a + k)
sum_word_carries a k f g = grind (arith, nat_tests)

sum_word_overflows : (a k : ℕ) → a < 65536 → k < 256 → (not (nat_le 32768 a) && nat_le 32768 ((a + k) % 65536)) ≡ overflows 32768 (signed 32768 a +ℤ pos k)
sum_word_overflows a k f g = grind (arith, ints, nat_tests)

difference_word_borrows : (a k : ℕ) → a < 65536 → k < 256 → (not (nat_le 32768 a) && nat_le 32768 ((a + 65536 - k) % 65536)) ≡ nat_lt a k
difference_word_borrows a k f g = grind (arith, nat_tests)

difference_word_overflows : (a k : ℕ) → a < 65536 → k < 256 → (nat_le 32768 a && not (nat_le 32768 ((a + 65536 - k) % 65536))) ≡ overflows 32768 (signed 32768 a -ℤ pos k)
difference_word_overflows a k f g = grind (arith, ints, nat_tests)

abbrev word_bits : List ℕ → ℕ → ℕ → ℕ → ℕ
word_bits table a r s = bit_or (bit_and s 224) (bit_or (get_or table (a / 32768 * 2 + r / 32768) 0) (if r == 0 then 2 else 0))

by_word_signs : (table : List ℕ) (a r s : ℕ) → a < 65536 → r < 65536 → word_bits table a r s ≡ word_at table (nat_le 32768 a) (nat_le 32768 r) (r == 0) s
by_word_signs table a r s f g = (λ i. bit_or (bit_and s 224) (bit_or (get_or table (word_sign a f i * 2 + word_sign r g i) 0) (if r == 0 then 2 else 0)))

pub sum_word_put : (a k : ℕ) (s t : Sreg) (r i : ℕ) → a < 65536 → k < 256 → s.bits < 256 → r ≡ (a + k) % 65536 → i ≡ a / 32768 * 2 + r / 32768
    → t.bits ≡ bit_or (bit_and s.bits 224) (bit_or (get_or SUM_FLAGS i 0) (if r == 0 then 2 else 0)) → (r, t) ≡ added_word a k s
unfolding added_word
sum_word_put a k s t r i f g h e at put =
    let r' = (a + k) % 65536 in
    let bits = put
    ∙ ap (λ j. bit_or (bit_and s.bits 224) (bit_or (get_or SUM_FLAGS j 0) (if r == 0 then 2 else 0))) at
    ∙ ap (λ r. word_bits SUM_FLAGS a r s.bits) e
    ∙ by_word_signs SUM_FLAGS a r' s.bits f (omega arith)
    ∙ eqb-true _ _ (put_word sum_word_fits sum_word_fit (nat_le 32768 a) (nat_le 32768 r') (r' == 0) s.bits h)
    ∙ (λ i. with_result 32768 r' (sum_word_overflows a k f g i) (with_flag s.bits C (sum_word_carries a k f g i))) in
    (λ x. (let u : Sreg = record { bits = bits x } in (e x, u)))

pub difference_word_put : (a k : ℕ) (s t : Sreg) (r i : ℕ) → a < 65536 → k < 256 → s.bits < 256 → r ≡ (a + 65536 - k) % 65536 → i ≡ a / 32768 * 2 + r / 32768
    → t.bits ≡ bit_or (bit_and s.bits 224) (bit_or (get_or DIFFERENCE_FLAGS i 0) (if r == 0 then 2 else 0)) → (r, t) ≡ subtracted_word a k s
unfolding subtracted_word
difference_word_put a k s t r i f g h e at put =
    let r' = (a + 65536 - k) % 65536 in
    let bits = put
    ∙ ap (λ j. bit_or (bit_and s.bits 224) (bit_or (get_or DIFFERENCE_FLAGS j 0) (if r == 0 then 2 else 0))) at
    ∙ ap (λ r. word_bits DIFFERENCE_FLAGS a r s.bits) e
    ∙ by_word_signs DIFFERENCE_FLAGS a r' s.bits f (omega arith)
    ∙ eqb-true _ _ (put_word difference_word_fits difference_word_fit (nat_le 32768 a) (nat_le 32768 r') (r' == 0) s.bits h)
    ∙ (λ i. with_result 32768 r' (difference_word_overflows a k f g i) (with_flag s.bits C (difference_word_borrows a k f g i))) in
    (λ x. (let u : Sreg = record { bits = bits x } in (e x, u)))
