-- Decimal digits.
use Rattle.std.proofs.Common.{◌≡◌, ℕ, zero, suc, ◌+◌, ◌-◌, ◌*◌, ◌<◌, ◌≤◌, Bool, true, false, cond, eqb, List, [], ◌∷◌, length, get_or, drop, refl, ap, arith, add-one}
use Rattle.std.specs.List.{list_all}
use Rattle.std.proofs.Math.Seq.{drop-cons}
use Rattle.std.proofs.lemmas.Bool.{and_parts, eqb-true}
use Rattle.state_text.specs.Parts.{is_digit, is_decimal, read_on}

-- each digit of a number
digits_of : (d : ℕ) (ds : List ℕ) → is_decimal (d ∷ ds) ≡ true → list_all is_digit (d ∷ ds) ≡ true
unfolding is_decimal
digits_of d ds h = go (eqb d 48) refl h
  where
    nothing : (xs : List ℕ) → eqb (length xs) 0 ≡ true → xs ≡ []
    nothing [] e = refl
    nothing (x ∷ xs) e = absurd (omega (arith, eqb-true (length (x ∷ xs)) 0 e))

    go : (b : Bool) → eqb d 48 ≡ b → cond b (eqb (length ds) 0) (list_all is_digit (d ∷ ds)) ≡ true → list_all is_digit (d ∷ ds) ≡ true
    go true e k = rw (eqb-true d 48 e, nothing ds k) refl
    go false e k = k

pub decimal_digits : (ds : List ℕ) → is_decimal ds ≡ true → list_all is_digit ds ≡ true
unfolding is_decimal
decimal_digits [] h = refl
decimal_digits (d ∷ ds) h = digits_of d ds h

pub all_at : (ds : List ℕ) (i : ℕ) → list_all is_digit ds ≡ true → i < length ds → is_digit (get_or ds i 0) ≡ true
all_at [] i h lt = absurd (omega arith)
all_at (d ∷ ds) zero h lt = (and_parts (is_digit d) (list_all is_digit ds) h).0
all_at (d ∷ ds) (suc i) h lt = all_at ds i (and_parts (is_digit d) (list_all is_digit ds) h).1 (omega arith)

pub digit_at : (ds : List ℕ) (i : ℕ) → is_decimal ds ≡ true → i < length ds → is_digit (get_or ds i 0) ≡ true
digit_at ds i h lt = all_at ds i (decimal_digits ds h) lt

-- one digit more
pub read_step : (n : ℕ) (ds : List ℕ) (i : ℕ) → i < length ds → read_on n (drop i ds) ≡ read_on (n * 10 + (get_or ds i 0 - 48)) (drop (i + 1) ds)
read_step n ds i lt =
    let e : drop i ds ≡ get_or ds i 0 ∷ drop (i + 1) ds = rw add-one (drop-cons ds i 0 lt) in
    ap (read_on n) e

-- digits behind a number make it no smaller
pub read_ge : (n : ℕ) (ds : List ℕ) → n ≤ read_on n ds
read_ge n [] = omega arith
read_ge n (c ∷ cs) =
    let more = read_ge (n * 10 + (c - 48)) cs in
    omega (arith, more)
