-- Decimal numbers are read as they are written, and written as they were read.
use Rattle.std.proofs.Common.{◌≡◌, ℕ, zero, suc, ◌<◌, ◌^◌, true, eqb, ltb, List, [], ◌∷◌, length, get_or, map, decimal, refl, ap, ◌∙◌, arith, inl, inr, rules}
use Rattle.std.specs.List.{list_all, AllByRecursion}
use Rattle.std.proofs.lemmas.Bool.{and_parts, and_from, cases_eq, eq-eqb, ne_eqb, eqb-true, ltb-true, lt-ltb}
use Rattle.std.proofs.lemmas.Fmt.{decimal-digits_value, digits_decimal, digits_value-decimal, decimal_nonempty, decimal_digit, first_decimal}
use Rattle.std.proofs.lemmas.Str.Parse.{IsNumeralModel, numerals_by_fold}
use Rattle.state_text.specs.Parts.{is_digit, is_decimal, read_on, value}
use Rattle.state_text.specs.Reading.{fits_word}
use Rattle.state_text.proofs.Digits.{decimal_digits}
use Rattle.state_text.proofs.Visible.{IsAbove, digits_above}

own : IsNumeralModel (λ ds. list_all is_digit ds ≡ true) (read_on 0)
own = numerals_by_fold _ (search rules) read_on (search rules)

leading : (d : ℕ) (ds : List ℕ) → is_decimal (d ∷ ds) ≡ true → d ≡ 48 → length (d ∷ ds) ≡ 1
unfolding is_decimal
leading d ds h same =
    let k : eqb (length ds) 0 ≡ true = rw (eq-eqb d 48 same) at h in
    omega (arith, eqb-true (length ds) 0 k)

pub decimal_of : (p : List ℕ) → is_decimal p ≡ true → value p < 2 ^ 64 → decimal (value p) ≡ p
unfolding is_decimal
decimal_of [] h lt = absurd cc
decimal_of (d ∷ ds) h lt = decimal-digits_value own (d ∷ ds) (decimal_digits (d ∷ ds) h) (omega arith) (λ same. leading d ds h same) lt

is_one : (ds : List ℕ) → list_all is_digit ds ≡ true → 0 < length ds → (get_or ds 0 0 ≡ 48 → length ds ≡ 1) → is_decimal ds ≡ true
unfolding is_decimal
is_one [] all some alone = absurd (omega arith)
is_one (d ∷ ds) all some alone =
    elim (cases_eq d 48) [
      | inl same ↦
          let one = alone same in
          rw (eq-eqb d 48 same) (eq-eqb (length ds) 0 (omega (arith, one)))
      | inr differs ↦ rw (ne_eqb d 48 differs) all
    ]

zero_alone : (n : ℕ) → n < 2 ^ 64 → get_or (decimal n) 0 0 ≡ 48 → length (decimal n) ≡ 1
zero_alone zero lt h = ap length (decimal_digit 0 (omega arith))
zero_alone (suc n) lt h =
    let more = first_decimal (suc n) (omega arith) lt in
    absurd (omega (arith, more, h))

pub decimal_again : (n : ℕ) → n < 2 ^ 64 → (is_decimal (decimal n) ≡ true) × (value (decimal n) ≡ n)
decimal_again n lt = (is_one (decimal n) (digits_decimal own n lt) (decimal_nonempty n lt) (zero_alone n lt), digits_value-decimal own n lt)

pub decimal_above : (n : ℕ) → n < 2 ^ 64 → IsAbove 32 (decimal n)
decimal_above n lt = digits_above (decimal n) (digits_decimal own n lt)

abbrev pub AreWide : List ℕ → Type 0
AreWide ns = AllByRecursion (λ x. x < 2 ^ 64) ns

-- lists of numerals are the numerals of their values
pub decimals_of : (ps : List (List ℕ)) → list_all is_decimal ps ≡ true → list_all fits_word ps ≡ true → (map decimal (map value ps) ≡ ps) × AreWide (map value ps)
decimals_of [] h f = (refl, tt)
decimals_of (p ∷ ps) h f =
    let a = and_parts (is_decimal p) (list_all is_decimal ps) h in
    let b = and_parts (fits_word p) (list_all fits_word ps) f in
    let lt : value p < 2 ^ 64 = ltb-true (value p) (2 ^ 64) b.0 in
    let rest = decimals_of ps a.1 b.1 in
    (ap (λ x. x ∷ map decimal (map value ps)) (decimal_of p a.0 lt) ∙ ap (λ xs. p ∷ xs) rest.0, (lt, rest.1))

pub record AreRead (ns : List ℕ) : Type 0 where
  pub decimals : list_all is_decimal (map decimal ns) ≡ true
  pub fit : list_all fits_word (map decimal ns) ≡ true
  pub values : map value (map decimal ns) ≡ ns
  pub visible : AllByRecursion (IsAbove 32) (map decimal ns)

pub decimals_again : (ns : List ℕ) → AreWide ns → AreRead ns
decimals_again [] h = record { decimals = refl; fit = refl; values = refl; visible = tt }
decimals_again (n ∷ ns) h =
    let one = decimal_again n h.0 in
    let rest = decimals_again ns h.1 in
    record {
      decimals = and_from (is_decimal (decimal n)) (list_all is_decimal (map decimal ns)) one.0 rest.decimals;
      fit = and_from (fits_word (decimal n)) (list_all fits_word (map decimal ns)) (ap (λ v. ltb v (2 ^ 64)) one.1 ∙ lt-ltb n (2 ^ 64) h.0) rest.fit;
      values = ap (λ x. x ∷ map value (map decimal ns)) one.1 ∙ ap (λ xs. n ∷ xs) rest.values;
      visible = (decimal_above n h.0, rest.visible);
    }
