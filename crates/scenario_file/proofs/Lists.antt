-- Lists of a document beside the lists of the code.
use Rattle.std.proofs.Common.{◌≡◌, sum, ℕ, zero, suc, ◌+◌, ◌<◌, ◌≤◌, ◌++◌, true, false, take, drop, get_or, arith, length, ◌||◌, Bool, List, [], ◌∷◌, map, Option, Some, None, pos, negsuc, String, Global, string_bytes, refl, sym, ap, ◌∙◌}
use Rattle.std.specs.List.{list_any, list_all}
use Rattle.std.specs.Map.{keys_of}
use Rattle.std.specs.Option.{option_zip}
use Rattle.std.proofs.lemmas.List.{map-append, take_more, take-append-drop}
use Rattle.std.proofs.lemmas.List.Sums.{sum_by-append}
use Rattle.std.proofs.lemmas.Bool.{and_parts}
use Rattle.toml.specs.Data.{Data, integer, array, as_array}
use Rattle.toml.specs.View.{view, items_of, items_view, members_view}
use Rattle.toml.specs.declared.value.Value.{Value}
use Rattle.scenario_file.specs.Document.{values_in, keys_in, array_elements, on_array, natural, natural_in, pair_made, pair_in, pair_of}
use Rattle.scenario_file.specs.Rules.{are_two}

pub values_in-items : (ds : List Data) → values_in (items_of ds) ≡ ds
unfolding values_in
values_in-items [] = refl
values_in-items (d ∷ ds) = ap (λ x. d ∷ x) (values_in-items ds)

pub keys_in-members : (es : List (String Global × Value)) → keys_in (members_view es) ≡ map string_bytes (keys_of es)
unfolding keys_in
keys_in-members [] = refl
keys_in-members (e ∷ es) = ap (λ x. string_bytes e.0 ∷ x) (keys_in-members es)

pub list_any-map : {X Y : Type 0} (p : Y → Bool) (f : X → Y) (xs : List X) → list_any p (map f xs) ≡ list_any (λ x. p (f x)) xs
list_any-map p f [] = refl
list_any-map p f (x ∷ xs) = ap (λ b. p (f x) || b) (list_any-map p f xs)

-- the elements of an array that stands there
pub elements-array : (vs : List Value) (d : Data) (o : Option Data) → o ≡ Some d → Some (items_view vs) ≡ as_array d → map view vs ≡ array_elements o
elements-array vs (array ds) o here is = rw here (sym (values_in-items (map view vs)) ∙ ap values_in (cc))
elements-array vs _ o here is = cc

pub array_test : (test : List Data → Bool) (vs : List Value) (d : Data) → Some (items_view vs) ≡ as_array d → test (map view vs) ≡ on_array test d
array_test test vs (array ds) is = let e : items_view vs ≡ ds = cc in ap test (sym (values_in-items (map view vs)) ∙ ap values_in e)
array_test test vs _ is = cc

pub array_pair : (vs : List Value) (d : Data) → Some (items_view vs) ≡ as_array d → pair_in (map view vs) ≡ pair_of d
array_pair vs (array ds) is = let e : items_view vs ≡ ds = cc in ap pair_in (sym (values_in-items (map view vs)) ∙ ap values_in e)
array_pair vs _ is = cc

zip_is : (a b : Option ℕ) → option_zip a b ≡ pair_made a b
zip_is (Some a) (Some b) = refl
zip_is (Some a) None = refl
zip_is None b = refl

pub pair_is : (d e : Data) → option_zip (natural_in d) (natural_in e) ≡ pair_in (d ∷ e ∷ [])
pair_is (integer a) (integer b) = zip_is (natural a) (natural b)
pair_is (integer (pos n)) e = refl
pair_is (integer (negsuc n)) e = refl
pair_is d e = refl

-- a list of fewer or more than two is no pair
pub pair_below : {X : Type 0} (f : X → Data) (xs : List X) → length xs < 2 → pair_in (map f xs) ≡ None
pair_below f [] h = refl
pair_below f (x ∷ []) h = one (f x)
  where
    one : (d : Data) → pair_in (d ∷ []) ≡ None
    one (integer a) = refl
    one d = refl
pair_below f (x ∷ y ∷ xs) h = absurd (omega (h, arith))

pub pair_above : {X : Type 0} (f : X → Data) (xs : List X) → 3 ≤ length xs → pair_in (map f xs) ≡ None
pair_above f [] h = absurd (omega (h, arith))
pair_above f (x ∷ []) h = absurd (omega (h, arith))
pair_above f (x ∷ y ∷ []) h = absurd (omega (h, arith))
pair_above f (x ∷ y ∷ z ∷ xs) h = three (f x) (f y) (f z) (map f xs)
  where
    three : (d e g : Data) (ds : List Data) → pair_in (d ∷ e ∷ g ∷ ds) ≡ None
    three (integer a) (integer b) g ds = refl
    three (integer a) e g ds = refl
    three d e g ds = refl

pub two_below : {X : Type 0} (f : X → Data) (xs : List X) → length xs < 2 → are_two (map f xs) ≡ false
two_below f [] h = refl
two_below f (x ∷ []) h = refl
two_below f (x ∷ y ∷ xs) h = absurd (omega (h, arith))

pub two_above : {X : Type 0} (f : X → Data) (xs : List X) → 3 ≤ length xs → are_two (map f xs) ≡ false
two_above f [] h = absurd (omega (h, arith))
two_above f (x ∷ []) h = absurd (omega (h, arith))
two_above f (x ∷ y ∷ []) h = absurd (omega (h, arith))
two_above f (x ∷ y ∷ z ∷ xs) h = refl

pub length_map : {X Y : Type 0} (f : X → Y) (xs : List X) → length (map f xs) ≡ length xs
length_map f [] = refl
length_map f (x ∷ xs) = ap suc (length_map f xs)

pub map_append_one : {X Y Z : Type 0} (f : Y → Z) (g : X → Y) (xs : List X) (x : X) → map f (map g (xs ++ x ∷ [])) ≡ map f (map g xs) ++ f (g x) ∷ []
map_append_one f g [] x = refl
map_append_one f g (y ∷ xs) x = ap (λ t. f (g y) ∷ t) (map_append_one f g xs x)

pub map_one : {X Y : Type 0} (f : X → Y) (xs : List X) (x : X) → map f (xs ++ x ∷ []) ≡ map f xs ++ f x ∷ []
map_one f [] x = refl
map_one f (y ∷ xs) x = ap (λ t. f y ∷ t) (map_one f xs x)

-- one element more, under two maps
pub map_more : {X Y Z : Type 0} (f : Y → Z) (g : X → Y) (xs : List X) (i : ℕ) (d : X) → i < length xs → map f (map g (take (i + 1) xs)) ≡ map f (map g (take i xs)) ++ f (g (get_or xs i d)) ∷ []
map_more f g xs i d h = ap (λ t. map f (map g t)) (take_more xs i d h) ∙ map_append_one f g (take i xs) (get_or xs i d)

-- a test that holds of all holds of each
pub all_at : {X Y : Type 0} (p : Y → Bool) (g : X → Y) (xs : List X) (i : ℕ) (d : X) → i < length xs → list_all p (map g xs) ≡ true → p (g (get_or xs i d)) ≡ true
all_at p g [] i d h all = absurd (omega arith)
all_at p g (x ∷ xs) zero d h all = (and_parts (p (g x)) (list_all p (map g xs)) all).0
all_at p g (x ∷ xs) (suc i) d h all = all_at p g xs i d (omega arith) (and_parts (p (g x)) (list_all p (map g xs)) all).1

sum_append : {X Y : Type 0} (f : Y → ℕ) (g : X → Y) (xs ys : List X) → sum (map f (map g (xs ++ ys))) ≡ sum (map f (map g xs)) + sum (map f (map g ys))
sum_append f g xs ys = ap (λ t. sum (map f t)) (map-append g xs ys) ∙ (ap sum (map-append f (map g xs) (map g ys)) ∙ sum_by-append (λ n. n) (map f (map g xs)) (map f (map g ys)))

-- a sum goes past a bound with its first i + 1 parts
pub sum_past : {X Y : Type 0} (f : Y → ℕ) (g : X → Y) (xs : List X) (i total most : ℕ) (d : X) → i < length xs → total ≡ sum (map f (map g (take i xs))) → most < total + f (g (get_or xs i d))
    → most < sum (map f (map g xs))
sum_past f g xs i total most d h e past =
    let all = ap (λ t. sum (map f (map g t))) (take-append-drop (i + 1) xs) in
    let two = sum_append f g (take (i + 1) xs) (drop (i + 1) xs) in
    let more = ap (λ t. sum (map f (map g t))) (take_more xs i d h) in
    let last = sum_append f g (take i xs) (get_or xs i d ∷ []) in
    omega (arith, all, two, more, last)
