-- What holds of a word that is taken as a number or a file.
use Rattle.std.proofs.Common.{◌≡◌, ℕ, ◌≤◌, ◌&&◌, ◌==◌, Bool, true, false, not, subst, length, nat_le, List, Some, None, [], ◌∷◌, refl, arith, if◌then◌else◌}
use Rattle.std.specs.Char.{is_ascii_digit}
use Rattle.std.specs.List.{list_all}
use Rattle.std.specs.Str.Parse.{digits_value}
use Rattle.std.proofs.lemmas.Bool.{and_parts}
use Rattle.std.proofs.lemmas.Bool.Decides.{nat_tests}
use Rattle.command_words.specs.Words.{is_file, number_of}

parts5 : (a b c d e : Bool) → (a && b && c && d && e) ≡ true → (c ≡ true) × (d ≡ true) × (e ≡ true)
parts5 true true true true true h = (refl, refl, refl)
parts5 _ _ _ _ _ h = absurd (cc)

if_some : (b : Bool) (n m : ℕ) → (if b then Some n else None) ≡ Some m → (b ≡ true) × (n ≡ m)
if_some true n m h = (refl, cc)
if_some false n m h = absurd (cc)

record Number (least most : ℕ) (word : List ℕ) (n : ℕ) : Type 0 where
  pub digits : list_all is_ascii_digit word ≡ true
  pub from : nat_le least n ≡ true
  pub to : nat_le n most ≡ true

number_parts : (digits least most : ℕ) (word : List ℕ) (n : ℕ) → number_of digits least most word ≡ Some n → Number least most word n
unfolding number_of
number_parts digits least most word n h =
    let v = digits_value 10 word in
    let t = if_some (nat_le 1 (length word) && nat_le (length word) digits && list_all is_ascii_digit word && nat_le least v && nat_le v most) v n h in
    let p = parts5 (nat_le 1 (length word)) (nat_le (length word) digits) (list_all is_ascii_digit word) (nat_le least v) (nat_le v most) t.0 in
    record { digits = p.0; from = subst (λ k. nat_le least k ≡ true) t.1 p.1; to = subst (λ k. nat_le k most ≡ true) t.1 p.2 }

pub number_limits : (digits least most : ℕ) (word : List ℕ) (n : ℕ) → number_of digits least most word ≡ Some n → (least ≤ n) × (n ≤ most)
number_limits digits least most word n h =
    let p = number_parts digits least most word n h in
    let a : nat_le least n ≡ true = p.from in
    let b : nat_le n most ≡ true = p.to in
    (grind (arith, nat_tests), grind (arith, nat_tests))

not_dash : (c : ℕ) → is_ascii_digit c ≡ true → not (c == 45) ≡ true
not_dash c h = grind (arith, nat_tests)

-- digits are a file's name too
digits_file : (word : List ℕ) (digits least most n : ℕ) → number_of digits least most word ≡ Some n → is_file word ≡ true
unfolding number_of
digits_file [] digits least most n h = absurd (cc)
digits_file (c ∷ cs) digits least most n h =
    not_dash c (and_parts (is_ascii_digit c) (list_all is_ascii_digit cs) (number_parts digits least most (c ∷ cs) n h).digits).0

pub number_file : (digits least most : ℕ) (word : List ℕ) (n : ℕ) → number_of digits least most word ≡ Some n → is_file word ≡ true
number_file digits least most word n h = digits_file word digits least most n h
