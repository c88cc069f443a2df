-- The bytes of a script, stretch by stretch.
use Rattle.std.proofs.Common.{◌≡◌, ℕ, zero, suc, ◌+◌, ◌<◌, ◌≤◌, true, Option, Some, None, inl, inr, is_some, List, [], ◌∷◌, ◌++◌, length, get_or, take, drop, refl, sym, ap, subst, ◌∙◌, arith}
use Rattle.std.specs.List.{slice_get}
use Rattle.std.specs.Option.{option_or}
use Rattle.std.proofs.lemmas.Bool.{cases_lt}
use Rattle.std.proofs.lemmas.List.{drop_all, drop_more, take_more}
use Rattle.std.proofs.lemmas.Option.{slice_get-get_or, slice_get_within}
use Rattle.serial_ports.specs.Script.{Arrives, IsByteOf, StretchBytes, first_byte, stretch_byte}

-- ---- one stretch behind others
pub or-none : (o : Option ℕ) → option_or o None ≡ o
or-none None = refl
or-none (Some b) = refl

or-or : (a b c : Option ℕ) → option_or a (option_or b c) ≡ option_or (option_or a b) c
or-or None b c = refl
or-or (Some n) b c = refl

some-or : (a b : Option ℕ) → is_some a ≡ true → is_some (option_or a b) ≡ true
some-or None b e = absurd cc
some-or (Some n) b e = refl

first_byte-push : (xs : List StretchBytes) (x : StretchBytes) (t : ℕ) → first_byte (xs ++ x ∷ []) t ≡ option_or (first_byte xs t) (stretch_byte x t)
unfolding first_byte
first_byte-push [] x t = or-none (stretch_byte x t)
first_byte-push (y ∷ xs) x t = ap (option_or (stretch_byte y t)) (first_byte-push xs x t) ∙ or-or (stretch_byte y t) (first_byte xs t) (stretch_byte x t)

-- ---- a script of no stretch, and of one
pub no-byte : (t : ℕ) → first_byte [] t ≡ None
unfolding first_byte
no-byte t = refl

pub one-byte : (x : StretchBytes) (t : ℕ) → first_byte (x ∷ []) t ≡ stretch_byte x t
unfolding first_byte
one-byte x t = or-none (stretch_byte x t)

pub one-arrives : (x : StretchBytes) (t : ℕ) (o : Option ℕ) → IsByteOf x t o → Arrives (record { stretches = x ∷ [] }) t o
one-arrives x t (Some b) h = (0, x, refl, h, λ j y l e. absurd (omega arith))
one-arrives x t None h = λ j y e. by j y e
  where
    by : (j : ℕ) (y : StretchBytes) → slice_get (x ∷ []) j ≡ Some y → IsByteOf y t None
    by zero y e = let is : x ≡ y = cc in subst (λ (z : StretchBytes). IsByteOf z t None) is h
    by (suc j) y e = absurd cc

-- ---- none of the first i stretches has a byte in cycle t
pub record IsPast (xs : List StretchBytes) (t i : ℕ) : Type 0 where
  pub rest : first_byte xs t ≡ first_byte (drop i xs) t
  pub before : (j : ℕ) (y : StretchBytes) → j < i → slice_get xs j ≡ Some y → IsByteOf y t None

pub past-none : (xs : List StretchBytes) (t : ℕ) → IsPast xs t 0
past-none xs t = record { rest = refl; before = λ j y l e. absurd (omega arith) }

pub past-more : (xs : List StretchBytes) (t i : ℕ) (d : StretchBytes) → i < length xs → stretch_byte (get_or xs i d) t ≡ None → IsByteOf (get_or xs i d) t None → IsPast xs t i → IsPast xs t (i + 1)
unfolding first_byte
past-more xs t i d l none law p = record {
  rest = p.rest ∙ ap (λ (ys : List StretchBytes). first_byte ys t) (drop_more xs i d l) ∙ ap (λ (o : Option ℕ). option_or o (first_byte (drop (i + 1) xs) t)) none;
  before = λ j y k e. elim (cases_lt j i) [ inl m ↦ p.before j y m e | inr m ↦ last j y (omega arith) e ];
}
  where
    last : (j : ℕ) (y : StretchBytes) → j ≡ i → slice_get xs j ≡ Some y → IsByteOf y t None
    last j y same e =
        let there = slice_get-get_or xs i d l in
        let at : slice_get xs i ≡ Some y = ap (slice_get xs) (sym same) ∙ e in
        let is : get_or xs i d ≡ y = cc in
        subst (λ (z : StretchBytes). IsByteOf z t None) is law

-- the next stretch has one
pub here-byte : (xs : List StretchBytes) (t i b : ℕ) (d : StretchBytes) → i < length xs → stretch_byte (get_or xs i d) t ≡ Some b → IsPast xs t i → first_byte xs t ≡ Some b
unfolding first_byte
here-byte xs t i b d l some p = p.rest ∙ ap (λ (ys : List StretchBytes). first_byte ys t) (drop_more xs i d l) ∙ ap (λ (o : Option ℕ). option_or o (first_byte (drop (i + 1) xs) t)) some

pub here-arrives : (xs : List StretchBytes) (t i b : ℕ) (d : StretchBytes) → i < length xs → IsByteOf (get_or xs i d) t (Some b) → IsPast xs t i → Arrives (record { stretches = xs }) t (Some b)
here-arrives xs t i b d l law p = (i, get_or xs i d, slice_get-get_or xs i d l, law, p.before)

-- there is no other
pub never-byte : (xs : List StretchBytes) (t i : ℕ) → length xs ≤ i → IsPast xs t i → first_byte xs t ≡ None
unfolding first_byte
never-byte xs t i l p = p.rest ∙ ap (λ (ys : List StretchBytes). first_byte ys t) (drop_all i xs l)

pub never-arrives : (xs : List StretchBytes) (t i : ℕ) → length xs ≤ i → IsPast xs t i → Arrives (record { stretches = xs }) t None
never-arrives xs t i l p = λ j y e. let within = slice_get_within xs j y e in p.before j y (omega arith) e

-- ---- of the cycles from cycle t on, at most so many, n have no byte of these stretches
pub record IsCalm (xs : List StretchBytes) (t most n : ℕ) : Type 0 where
  pub within : n ≤ most
  pub none : (i : ℕ) → i < n → first_byte xs (t + i) ≡ None
  pub first : n < most → is_some (first_byte xs (t + n)) ≡ true

pub calm-none : (t most : ℕ) → IsCalm [] t most most
unfolding first_byte
calm-none t most = record { within = omega arith; none = λ i l. refl; first = λ l. absurd (omega arith) }

pub calm-push : (xs : List StretchBytes) (x : StretchBytes) (t most n m : ℕ) → m ≤ n → ((i : ℕ) → i < m → stretch_byte x (t + i) ≡ None) → (m < n → is_some (stretch_byte x (t + m)) ≡ true)
    → IsCalm xs t most n → IsCalm (xs ++ x ∷ []) t most m
calm-push xs x t most n m l none some p = record {
  within = let w = p.within in omega arith;
  none = λ i k. first_byte-push xs x (t + i) ∙ ap (λ (o : Option ℕ). option_or o (stretch_byte x (t + i))) (p.none i (omega arith)) ∙ none i k;
  first = λ k. ap is_some (first_byte-push xs x (t + m)) ∙ elim (cases_lt m n) [ inl j ↦ sooner j | inr j ↦ same (omega arith) k ];
}
  where
    sooner : m < n → is_some (option_or (first_byte xs (t + m)) (stretch_byte x (t + m))) ≡ true
    sooner j = ap (λ (o : Option ℕ). is_some (option_or o (stretch_byte x (t + m)))) (p.none m j) ∙ some j

    same : m ≡ n → m < most → is_some (option_or (first_byte xs (t + m)) (stretch_byte x (t + m))) ≡ true
    same e k = some-or (first_byte xs (t + m)) (stretch_byte x (t + m)) (ap (λ (i : ℕ). is_some (first_byte xs (t + i))) e ∙ p.first (omega arith))

pub calm-more : (xs : List StretchBytes) (t most n m i : ℕ) (d : StretchBytes) → i < length xs → m ≤ n → ((j : ℕ) → j < m → stretch_byte (get_or xs i d) (t + j) ≡ None) → (m < n → is_some (stretch_byte (get_or xs i d) (t + m)) ≡ true)
    → IsCalm (take i xs) t most n → IsCalm (take (i + 1) xs) t most m
calm-more xs t most n m i d l less none some p =
    subst (λ (ys : List StretchBytes). IsCalm ys t most m) (sym (take_more xs i d l)) (calm-push (take i xs) (get_or xs i d) t most n m less none some p)
