-- Lists of links of which no two are equal.
use Rattle.std.proofs.Common.{◌≡◌, ◌≢◌, ℕ, zero, suc, ◌+◌, ◌*◌, ◌<◌, ◌≤◌, ◌==◌, ◌&&◌, ◌||◌, Bool, true, false, List, [], ◌∷◌, length, map, get_or, refl, sym, ◌∙◌, inl, inr, arith}
use Rattle.std.specs.List.{All, list_any, IsDistinct, AllByRecursion}
use Rattle.std.proofs.lemmas.List.{get_or-take, get_or_default, length-take-le}
use Rattle.std.proofs.lemmas.List.Folds.{Any-from_list_any, list_any-from_Any}
use Rattle.std.proofs.lemmas.Map.Steps.{length-le_from_distinct_below}
use Rattle.scenario_file.proofs.Lists.{length_map}
use Rattle.std.proofs.lemmas.Bool.{cases_Bool, false≢true}
use Rattle.std.proofs.lemmas.Bool.Decides.{nat_tests}
use Rattle.world_core.specs.declared.link_table.Link.{Link}
use Rattle.world_core.specs.FirstFault.{AllKeep}
use Rattle.world_core.specs.Topology.{IsNewLink}
use Rattle.scenario_file.specs.Faults.{same_link, two_equal}

pub or_parts : (a b : Bool) → (a || b) ≡ false → (a ≡ false) × (b ≡ false)
or_parts false false h = (refl, refl)
or_parts false true h = absurd cc
or_parts true b h = absurd cc

or_cases : (a b : Bool) → (a || b) ≡ true → a ≡ false → b ≡ true
or_cases true b h n = absurd cc
or_cases false b h n = h

same_itself : (x : Link) → same_link x x ≡ true
same_itself x = grind (arith, nat_tests)

same_is : (x y : Link) → same_link x y ≡ true → x ≡ y
same_is x y h =
    let a : x.from ≡ y.from = grind (arith, nat_tests) in
    let b : x.to ≡ y.to = grind (arith, nat_tests) in
    λ i. record { from = a i; to = b i }

-- no two equal: each place differs from each later one
pub apart : (xs : List Link) → two_equal xs ≡ false → (i j : ℕ) (d : Link) → i < j → j < length xs → get_or xs i d ≡ get_or xs j d → ⊥
unfolding two_equal
apart [] h i j d lt len e = absurd (omega arith)
apart (x ∷ xs) h i zero d lt len e = absurd (omega arith)
apart (x ∷ xs) h zero (suc j) d lt len e =
    let none = (or_parts (list_any (same_link x) xs) (two_equal xs) h).0 in
    let here : get_or xs j x ≡ x = get_or_default xs j x d (omega arith) ∙ sym e in
    false≢true (sym none ∙ list_any-from_Any (same_link x) xs (j, x, omega arith, here, same_itself x))
apart (x ∷ xs) h (suc i) (suc j) d lt len e = apart xs (or_parts (list_any (same_link x) xs) (two_equal xs) h).1 i j d (omega arith) (omega arith) e

-- two equal: some place is equal to a later one
pub record IsTwice (xs : List Link) : Type 0 where
  pub first : ℕ
  pub second : ℕ
  pub order : first < second
  pub inside : second < length xs
  pub equal : (d : Link) → get_or xs first d ≡ get_or xs second d

twice_here : (x : Link) (xs : List Link) → list_any (same_link x) xs ≡ true → IsTwice (x ∷ xs)
twice_here x xs h =
    let (k, y, lt, at, p) = Any-from_list_any (same_link x) xs h in
    record { first = 0; second = suc k; order = omega arith; inside = omega arith; equal = λ d. same_is x y p ∙ sym (get_or_default xs k d y lt ∙ at) }

twice_later : (x : Link) (xs : List Link) → IsTwice xs → IsTwice (x ∷ xs)
twice_later x xs t = let o = t.order in let n = t.inside in record { first = suc t.first; second = suc t.second; order = omega arith; inside = omega arith; equal = t.equal }

pub twice_from : (xs : List Link) → two_equal xs ≡ true → IsTwice xs
unfolding two_equal
twice_from [] h = absurd cc
twice_from (x ∷ xs) h = elim (cases_Bool (list_any (same_link x) xs)) [
  | inl yes_here ↦ twice_here x xs yes_here
  | inr not_here ↦ twice_later x xs (twice_from xs (or_cases (list_any (same_link x) xs) (two_equal xs) h not_here))
]

-- ---- the links that a topology takes
pub keeps_from : (xs : List Link) → All (λ l. l.from ≢ l.to) xs → two_equal xs ≡ false → AllKeep IsNewLink xs
keeps_from xs other h i d lt = (
  other i d lt,
  λ has.
      let k = has.0 in
      let size = length-take-le i xs (omega arith) in
      let below : k < i = let l = has.1 in omega (arith, l, size) in
      let l = get_or xs i d in
      let at : get_or xs k l ≡ l = sym (get_or-take i xs k l below) ∙ has.2 in
      apart xs h k i d below lt (get_or_default xs k d l (omega arith) ∙ at),
)

pub two_equal_not : (xs : List Link) → AllKeep IsNewLink xs → two_equal xs ≡ false
two_equal_not xs keeps = elim (cases_Bool (two_equal xs)) [
  | inl twice ↦
      let t = twice_from xs twice in
      let i = t.first in
      let j = t.second in
      let o = t.order in
      let n = t.inside in
      let d : Link = record { from = 0; to = 0 } in
      let l = get_or xs j d in
      let size = length-take-le j xs (omega arith) in
      absurd ((keeps j d n).1 (i, omega (arith, size, o), get_or-take j xs i l o ∙ t.equal l ∙ get_or_default xs j l d n))
  | inr none ↦ none
]

-- ---- so many links there are at most
abbrev number_of_link : Link → ℕ
number_of_link l = 64 * l.to + l.from

abbrev are_small : List Link → Type 0
are_small xs = All (λ l. (l.from < 64) × (l.to < 64)) xs

numbers_differ : (x y : Link) → x.from < 64 → y.from < 64 → same_link x y ≡ false → (number_of_link x == number_of_link y) ≡ false
numbers_differ x y a b h = differ_case x.from x.to y.from y.to a b h
  where
    differ_case : (f t g u : ℕ) → f < 64 → g < 64 → ((f == g) && (t == u)) ≡ false → (64 * t + f == 64 * u + g) ≡ false
    differ_case f t g u a b h = grind (arith, nat_tests)

numbers_apart : (x : Link) (xs : List Link) → x.from < 64 → are_small xs → list_any (same_link x) xs ≡ false → AllByRecursion (λ y. (number_of_link x == y) ≡ false) (map number_of_link xs)
numbers_apart x [] a s h = tt
numbers_apart x (y ∷ ys) a s h =
    let p = or_parts (same_link x y) (list_any (same_link x) ys) h in
    (numbers_differ x y a (s 0 y (omega arith)).0 p.0, numbers_apart x ys a (λ k d lt. s (suc k) d (omega arith)) p.1)

numbers_distinct : (xs : List Link) → are_small xs → two_equal xs ≡ false → IsDistinct ◌==◌ (map number_of_link xs)
unfolding two_equal IsDistinct
numbers_distinct [] s h = tt
numbers_distinct (x ∷ xs) s h =
    let p = or_parts (list_any (same_link x) xs) (two_equal xs) h in
    let later : are_small xs = λ k d lt. s (suc k) d (omega arith) in
    (numbers_apart x xs (s 0 x (omega arith)).0 later p.0, numbers_distinct xs later p.1)

number_below : (l : Link) (q : ℕ) → (l.from < 64) × (l.to < 64) → (q == number_of_link l) ≡ true → q < 4096
number_below l q s h = below_case l.from l.to q s.0 s.1 h
  where
    below_case : (f t q : ℕ) → f < 64 → t < 64 → (q == 64 * t + f) ≡ true → q < 4096
    below_case f t q a b h = grind (arith, nat_tests)

numbers_below : (xs : List Link) → are_small xs → (q : ℕ) → list_any (λ n. q == n) (map number_of_link xs) ≡ true → q < 4096
numbers_below [] s q h = absurd cc
numbers_below (x ∷ xs) s q h = elim (cases_Bool (q == number_of_link x)) [
  | inl here ↦ number_below x q (s 0 x (omega arith)) here
  | inr not_here ↦ numbers_below xs (λ k d lt. s (suc k) d (omega arith)) q (or_cases (q == number_of_link x) (list_any (λ n. q == n) (map number_of_link xs)) h not_here)
]

pub few_links : (xs : List Link) → All (λ l. (l.from < 64) × (l.to < 64)) xs → two_equal xs ≡ false → length xs ≤ 4096
few_links xs s h =
    let most = length-le_from_distinct_below (map number_of_link xs) 4096 (numbers_distinct xs s h) (λ q. numbers_below xs s q) in
    let size = length_map number_of_link xs in
    omega (arith, most, size)
