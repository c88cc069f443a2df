-- Two lists in order of a key that agree at each key are the same; so a stable sort of lists by node gives them by key,
-- then node.
use Rattle.std.proofs.Common.{◌≡◌, ℕ, zero, suc, ◌+◌, ◌-◌, ◌<◌, ◌≤◌, ◌≢◌, Bool, true, false, cond, ◌==◌, List, [], ◌∷◌, ◌++◌, refl, sym, subst, ◌∙◌, ap, arith}
use Rattle.std.specs.List.{filter, All}
use Rattle.std.specs.List.Sorted.{IsNonDecreasingBy}
use Rattle.std.proofs.lemmas.List.Elements.{All-append, All-cons, All-head, All-tail, All-weaker, All-filter}
use Rattle.std.proofs.lemmas.Bool.Decides.{nat_tests}
use native.Mathlib.Decide.{dec_le, ℕ_discrete}
use Rattle.air_base.specs.Each.{each_below}
use Rattle.air_base.proofs.Each.{filter_none, filter_each, All_each, each_same, each_none, each_one}

same_key : (a b : ℕ) → a ≡ b → (a == b) ≡ true
same_key a b e = grind (arith, nat_tests)

other_key : (a b : ℕ) → a ≢ b → (a == b) ≡ false
other_key a b e = grind (arith, nat_tests)

module _ {X : Type 0} (key : X → ℕ) where
  abbrev has : ℕ → X → Bool
  has c x = key x == c

  -- nothing behind has a lower key
  abbrev pub Sorted : List X → Type 0
  Sorted [] = Unit {0}
  Sorted (x ∷ xs) = All (λ z. key x ≤ key z) xs × Sorted xs

  pub sorted_from : (xs : List X) → IsNonDecreasingBy key xs → Sorted xs
  sorted_from [] h = tt
  sorted_from (x ∷ xs) h = ((λ k d l. h 0 (suc k) d (omega arith) (omega arith)), sorted_from xs (λ i j d l m. h (suc i) (suc j) d (omega arith) (omega arith)))

  -- the keys that two lists agree at: those of all elements that there are
  abbrev pub Agree : List X → List X → Type 0
  Agree xs ys = (z : X) → filter (has (key z)) xs ≡ filter (has (key z)) ys

  keep : (c : ℕ) (x : X) (xs : List X) → key x ≡ c → filter (has c) (x ∷ xs) ≡ x ∷ filter (has c) xs
  keep c x xs e = ap (λ (b : Bool). cond b (x ∷ filter (has c) xs) (filter (has c) xs)) (same_key (key x) c e)

  skip : (c : ℕ) (x : X) (xs : List X) → key x ≢ c → filter (has c) (x ∷ xs) ≡ filter (has c) xs
  skip c x xs e = ap (λ (b : Bool). cond b (x ∷ filter (has c) xs) (filter (has c) xs)) (other_key (key x) c e)

  -- the first of a list in order is no later than what another list that agrees begins with
  first_le : (x y : X) (xs ys : List X) → Sorted (y ∷ ys) → filter (has (key x)) (x ∷ xs) ≡ filter (has (key x)) (y ∷ ys) → key y ≤ key x
  first_le x y xs ys s e =
      let P : X → Type 0 = λ z. key y ≤ key z in
      let all : All P (y ∷ ys) = All-cons P y ys (omega arith) s.0 in
      let kept : All P (x ∷ filter (has (key x)) xs) = subst (All P) (sym e ∙ keep (key x) x xs refl) (All-filter (has (key x)) P (y ∷ ys) all) in
      All-head P x (filter (has (key x)) xs) kept

  heads : (x y : X) (xs ys : List X) → x ∷ xs ≡ y ∷ ys → (x ≡ y) × (xs ≡ ys)
  heads x y xs ys e = (cc, cc)

  tail_case : (x y z : X) (xs ys : List X) → Dec (key x ≡ key z) → key x ≡ key y → filter (has (key z)) (x ∷ xs) ≡ filter (has (key z)) (y ∷ ys) → filter (has (key z)) xs ≡ filter (has (key z)) ys
  tail_case x y z xs ys (yes e) k a = (heads x y (filter (has (key z)) xs) (filter (has (key z)) ys) (sym (keep (key z) x xs e) ∙ a ∙ keep (key z) y ys (sym k ∙ e))).1
  tail_case x y z xs ys (no d) k a = sym (skip (key z) x xs d) ∙ a ∙ skip (key z) y ys (λ e. d (k ∙ e))

  nil_no : (y : X) (ys : List X) → [] ≡ y ∷ ys → ⊥
  nil_no y ys e = cc

  pub sorted_same : (xs ys : List X) → Sorted xs → Sorted ys → Agree xs ys → xs ≡ ys
  sorted_same [] [] s t a = refl
  sorted_same [] (y ∷ ys) s t a = absurd (nil_no y (filter (has (key y)) ys) (a y ∙ keep (key y) y ys refl))
  sorted_same (x ∷ xs) [] s t a = absurd (nil_no x (filter (has (key x)) xs) (sym (a x) ∙ keep (key x) x xs refl))
  sorted_same (x ∷ xs) (y ∷ ys) s t a =
      let up = first_le x y xs ys t (a x) in
      let down = first_le y x ys xs s (sym (a y)) in
      let k : key x ≡ key y = omega arith in
      let first = heads x y (filter (has (key x)) xs) (filter (has (key x)) ys) (sym (keep (key x) x xs refl) ∙ a x ∙ keep (key x) y ys (sym k)) in
      let rest = sorted_same xs ys s.1 t.1 (λ z. tail_case x y z xs ys (ℕ_discrete (key x) (key z)) k (a z)) in
      (λ i. first.0 i ∷ rest i)

  pub sorted_append : (m : ℕ) (xs ys : List X) → All (λ z. key z ≤ m) xs → All (λ z. m ≤ key z) ys → Sorted xs → Sorted ys → Sorted (xs ++ ys)
  sorted_append m [] ys a b s t = t
  sorted_append m (x ∷ xs) ys a b s t =
      let h : key x ≤ m = All-head (λ (z : X). key z ≤ m) x xs a in (
        All-append (λ (z : X). key x ≤ key z) xs ys s.0 (All-weaker (λ (z : X). m ≤ key z) (λ (z : X). key x ≤ key z) (λ z l. omega arith) ys b),
        sorted_append m xs ys (All-tail (λ (z : X). key z ≤ m) x xs a) b s.1 t,
      )

  pub sorted_level : (c : ℕ) (xs : List X) → All (λ z. key z ≡ c) xs → Sorted xs
  sorted_level c [] a = tt
  sorted_level c (x ∷ xs) a =
      let e : key x ≡ c = All-head (λ (z : X). key z ≡ c) x xs a in
      let r = All-tail (λ (z : X). key z ≡ c) x xs a in
      (All-weaker (λ (z : X). key z ≡ c) (λ (z : X). key x ≤ key z) (λ z q. omega arith) xs r, sorted_level c xs r)

  -- the piece of node k in cycle a + i has that key
  module _ (a : ℕ) (g : ℕ → ℕ → List X) (bears : (k i : ℕ) → All (λ x. key x ≡ a + i) (g k i)) where
    piece_other : (c k i : ℕ) → a + i ≢ c → filter (has c) (g k i) ≡ []
    piece_other c k i d = filter_none (has c) (g k i) (All-weaker (λ (x : X). key x ≡ a + i) (λ (x : X). has c x ≡ false) (λ x e. other_key (key x) c (λ q. d (sym e ∙ q))) (g k i) (bears k i))

    by_cycle : ℕ → ℕ → List X
    by_cycle n t = each_below t (λ i. each_below n (λ k. g k i))

    by_node : ℕ → ℕ → List X
    by_node n t = each_below n (λ k. each_below t (g k))

    level : (n i : ℕ) → All (λ x. key x ≡ a + i) (each_below n (λ k. g k i))
    level n i = All_each (λ (x : X). key x ≡ a + i) n (λ k. g k i) (λ k l. bears k i)

    all_early : (n t : ℕ) → All (λ x. key x ≤ a + t) (each_below t (λ i. each_below n (λ k. g k i)))
    all_early n t = All_each (λ (x : X). key x ≤ a + t) t (λ i. each_below n (λ k. g k i)) (λ i l. All-weaker (λ (x : X). key x ≡ a + i) (λ (x : X). key x ≤ a + t) (λ x e. omega arith) (each_below n (λ k. g k i)) (level n i))

    pub sorted_cycles : (n t : ℕ) → Sorted (each_below t (λ i. each_below n (λ k. g k i)))
    sorted_cycles n zero = tt
    sorted_cycles n (suc t) =
        sorted_append (a + t) (each_below t (λ i. each_below n (λ k. g k i))) (each_below n (λ k. g k t)) (all_early n t)
        (All-weaker (λ (x : X). key x ≡ a + t) (λ (x : X). a + t ≤ key x) (λ x e. omega arith) (each_below n (λ k. g k t)) (level n t))
        (sorted_cycles n t) (sorted_level (a + t) (each_below n (λ k. g k t)) (level n t))

    cycles_filter : (c n t : ℕ) → filter (has c) (each_below t (λ i. each_below n (λ k. g k i))) ≡ each_below t (λ i. each_below n (λ k. filter (has c) (g k i)))
    cycles_filter c n t =
        filter_each (has c) t (λ i. each_below n (λ k. g k i))
        ∙ each_same t (λ i. filter (has c) (each_below n (λ k. g k i))) (λ i. each_below n (λ k. filter (has c) (g k i))) (λ i l. filter_each (has c) n (λ k. g k i))

    nodes_filter : (c n t : ℕ) → filter (has c) (each_below n (λ k. each_below t (g k))) ≡ each_below n (λ k. each_below t (λ i. filter (has c) (g k i)))
    nodes_filter c n t =
        filter_each (has c) n (λ k. each_below t (g k))
        ∙ each_same n (λ k. filter (has c) (each_below t (g k))) (λ k. each_below t (λ i. filter (has c) (g k i))) (λ k l. filter_each (has c) t (g k))

    agree_in : (n t i : ℕ) → i < t → each_below t (λ j. each_below n (λ k. filter (has (a + i)) (g k j))) ≡ each_below n (λ k. each_below t (λ j. filter (has (a + i)) (g k j)))
    agree_in n t i l =
        each_one t i (λ j. each_below n (λ k. filter (has (a + i)) (g k j))) l
        (λ j m d. each_none n (λ k. filter (has (a + i)) (g k j)) (λ k o. piece_other (a + i) k j (λ e. absurd (omega arith))))
        ∙ each_same n (λ k. filter (has (a + i)) (g k i)) (λ k. each_below t (λ j. filter (has (a + i)) (g k j)))
        (λ k o. sym (each_one t i (λ j. filter (has (a + i)) (g k j)) l (λ j m d. piece_other (a + i) k j (λ e. absurd (omega arith)))))

    agree_out : (c n t : ℕ) → ((i : ℕ) → i < t → a + i ≢ c) → each_below t (λ j. each_below n (λ k. filter (has c) (g k j))) ≡ each_below n (λ k. each_below t (λ j. filter (has c) (g k j)))
    agree_out c n t d =
        each_none t (λ j. each_below n (λ k. filter (has c) (g k j))) (λ j m. each_none n (λ k. filter (has c) (g k j)) (λ k o. piece_other c k j (d j m)))
        ∙ sym (each_none n (λ k. each_below t (λ j. filter (has c) (g k j))) (λ k o. each_none t (λ j. filter (has c) (g k j)) (λ j m. piece_other c k j (d j m))))

    agree_case : (c n t : ℕ) → Dec (a ≤ c) → Dec (c + 1 ≤ a + t) → each_below t (λ j. each_below n (λ k. filter (has c) (g k j))) ≡ each_below n (λ k. each_below t (λ j. filter (has c) (g k j)))
    agree_case c n t (no d) e = agree_out c n t (λ i l q. absurd (omega arith))
    agree_case c n t (yes d) (no e) = agree_out c n t (λ i l q. absurd (omega arith))
    agree_case c n t (yes d) (yes e) =
        let q : a + (c - a) ≡ c = omega arith in
        subst (λ (u : ℕ). each_below t (λ j. each_below n (λ k. filter (has u) (g k j))) ≡ each_below n (λ k. each_below t (λ j. filter (has u) (g k j)))) q (agree_in n t (c - a) (omega arith))

    pub agrees : (c n t : ℕ) → filter (has c) (each_below t (λ i. each_below n (λ k. g k i))) ≡ filter (has c) (each_below n (λ k. each_below t (g k)))
    agrees c n t = cycles_filter c n t ∙ agree_case c n t (dec_le a c) (dec_le (c + 1) (a + t)) ∙ sym (nodes_filter c n t)

    -- a list in order of key that keeps, key by key, the lists of the nodes one after another
    pub merged : (n t : ℕ) (ys : List X) → IsNonDecreasingBy key ys → Agree ys (each_below n (λ k. each_below t (g k))) → ys ≡ each_below t (λ i. each_below n (λ k. g k i))
    merged n t ys up same =
        sorted_same ys (each_below t (λ i. each_below n (λ k. g k i))) (sorted_from ys up) (sorted_cycles n t) (λ z. same z ∙ sym (agrees (key z) n t))
