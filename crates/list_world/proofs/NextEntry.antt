-- One entry more in a list whose entries come late enough behind one another, node by node.
use Rattle.std.proofs.Common.{◌≡◌, ◌≢◌, ◌↔◌, ℕ, zero, suc, ◌+◌, ◌<◌, ◌≤◌, Bool, true, false, cond, ◌==◌, List, [], ◌∷◌, ◌++◌, length, take, drop, length-append, take_all, drop-cons, take-append-drop, get_or, set, replicate, refl, sym, subst, ◌∙◌, ap, arith, append-nil}
use Rattle.std.specs.List.{filter, All, AllPairs}
use Rattle.std.proofs.lemmas.List.{take_more, get_or_default, get_or_at, get_or_append_left, get_or-set_same, get_or-set_other}
use Rattle.std.proofs.lemmas.List.Elements.{filter-append, All-push}
use Rattle.std.proofs.lemmas.List.Quantifiers.{all_pairs_push}
use Rattle.std.proofs.lemmas.Bool.Decides.{nat_tests}
use native.Mathlib.Decide.{ℕ_discrete}
use Rattle.world_core.specs.FirstFault.{KeepsBelow, AllKeep, IsFirstFault}
use Rattle.world_core.specs.Topology.{Topology, IsInside}
use Rattle.world_core.proofs.FirstFaults.{keeps_more}
use Rattle.world_core.proofs.LinkRows.{zeros}

module _ {X : Type 0} (node cycle : X → ℕ) (t : Topology) (gap : ℕ) where
  abbrev pub own : ℕ → List X → List X
  own k = filter (λ x. node x == k)

  -- c lies late enough behind these
  abbrev pub IsBehind : ℕ → List X → Type 0
  IsBehind c = All (λ y. cycle y + gap ≤ c)

  abbrev pub IsNext : List X → X → Type 0
  IsNext before x = IsInside t (node x) (cycle x) × IsBehind (cycle x) (own (node x) before)

  -- free[k] is the first cycle that lies late enough behind the entries of node k
  abbrev pub IsFree : List ℕ → List X → Type 0
  IsFree free before = (k : ℕ) → k < t.nodes → (c : ℕ) → (get_or free k 0 ≤ c) ↔ IsBehind c (own k before)

  pub free_none : (n : ℕ) → IsFree (replicate n 0) []
  free_none n k lt c = ((λ h i d l. absurd (omega arith)), (λ h. let z = zeros n k in omega arith))

  own_yes : (k : ℕ) (l : List X) (x : X) → node x ≡ k → own k (l ++ x ∷ []) ≡ own k l ++ x ∷ []
  own_yes k l x e =
      let t : (node x == k) ≡ true = grind (arith, nat_tests) in
      filter-append (λ (y : X). node y == k) l (x ∷ []) ∙ ap (λ (b : Bool). own k l ++ cond b (x ∷ []) []) t

  own_no : (k : ℕ) (l : List X) (x : X) → node x ≢ k → own k (l ++ x ∷ []) ≡ own k l
  own_no k l x d =
      let t : (node x == k) ≡ false = grind (arith, nat_tests) in
      filter-append (λ (y : X). node y == k) l (x ∷ []) ∙ ap (λ (b : Bool). own k l ++ cond b (x ∷ []) []) t ∙ append-nil (own k l)

  -- behind an entry that was late enough is behind all of its node
  behind_more : (l : List X) (x : X) (c : ℕ) → IsBehind (cycle x) (own (node x) l) → cycle x + gap ≤ c → IsBehind c (own (node x) (l ++ x ∷ []))
  behind_more l x c old h =
      subst (IsBehind c) (sym (own_yes (node x) l x refl)) (All-push (λ (y : X). cycle y + gap ≤ c) (own (node x) l) x (λ i d lt. let o = old i d lt in omega arith) h)

  behind_less : (l : List X) (x : X) (c : ℕ) → IsBehind c (own (node x) (l ++ x ∷ [])) → cycle x + gap ≤ c
  behind_less l x c h =
      let m = own (node x) l in
      let q : IsBehind c (m ++ x ∷ []) = subst (IsBehind c) (own_yes (node x) l x refl) h in
      subst (λ (y : X). cycle y + gap ≤ c) (get_or_at m x [] x (length m) refl) (q (length m) x (omega (arith, length-append m (x ∷ []))))

  free_case : (free : List ℕ) (l : List X) (x : X) (k c : ℕ) → node x < length free → IsBehind (cycle x) (own (node x) l) → (get_or free k 0 ≤ c) ↔ IsBehind c (own k l) → Dec (k ≡ node x)
      → (get_or (set free (node x) (cycle x + gap)) k 0 ≤ c) ↔ IsBehind c (own k (l ++ x ∷ []))
  free_case free l x k c room next old (yes e) =
      let at : get_or (set free (node x) (cycle x + gap)) (node x) 0 ≡ cycle x + gap = get_or-set_same free (node x) (cycle x + gap) 0 room in
      subst (λ (m : ℕ). (get_or (set free (node x) (cycle x + gap)) m 0 ≤ c) ↔ IsBehind c (own m (l ++ x ∷ []))) (sym e)
      ((λ h. behind_more l x c next (omega arith)), (λ h. let b = behind_less l x c h in omega arith))
  free_case free l x k c room next old (no d) =
      let at : get_or (set free (node x) (cycle x + gap)) k 0 ≡ get_or free k 0 = get_or-set_other free (node x) k (cycle x + gap) 0 d in
      let more : own k (l ++ x ∷ []) ≡ own k l = own_no k l x (λ q. d (sym q)) in
      ((λ h. subst (IsBehind c) (sym more) (old.0 (omega arith))), (λ h. let b = old.1 (subst (IsBehind c) more h) in omega arith))

  -- ---- the loop over the entries
  module _ (xs : List X) (i : ℕ) (free : List ℕ) (lt : i < length xs) (frees : IsFree free (take i xs)) where
    pub next_at : (d : X) → IsInside t (node (get_or xs i d)) (cycle (get_or xs i d)) → get_or free (node (get_or xs i d)) 0 ≤ cycle (get_or xs i d) → IsNext (take i xs) (get_or xs i d)
    next_at d inside h = (inside, (frees (node (get_or xs i d)) inside.0 (cycle (get_or xs i d))).0 h)

    pub free_at : (d : X) → node (get_or xs i d) < length free → IsNext (take i xs) (get_or xs i d) → IsFree (set free (node (get_or xs i d)) (cycle (get_or xs i d) + gap)) (take (i + 1) xs)
    free_at d room next =
        let x = get_or xs i d in
        subst (IsFree (set free (node x) (cycle x + gap))) (sym (take_more xs i d lt)) (λ k in_nodes c. free_case free (take i xs) x k c room next.1 (frees k in_nodes c) (ℕ_discrete k (node x)))

    pub kept_at : (d : X) → KeepsBelow IsNext xs i → IsNext (take i xs) (get_or xs i d) → KeepsBelow IsNext xs (i + 1)
    kept_at d old next = keeps_more IsNext xs i old (λ e. subst (IsNext (take i xs)) (get_or_default xs i d e lt) next)

    -- the test of one entry fails where it is at fault
    pub fault_at : (d : X) → (IsInside t (node (get_or xs i d)) (cycle (get_or xs i d)) × (get_or free (node (get_or xs i d)) 0 ≤ cycle (get_or xs i d)) → ⊥) → KeepsBelow IsNext xs i → IsFirstFault IsNext xs i
    fault_at d not old = record {
      place = lt;
      before = old;
      fault = λ e next.
          let n : IsNext (take i xs) (get_or xs i d) = subst (IsNext (take i xs)) (get_or_default xs i e d lt) next in
          not (n.0, (frees (node (get_or xs i d)) n.0.0 (cycle (get_or xs i d))).1 n.1);
    }

  -- ---- what the rule says of the whole list
  push_case : (l : List X) (x : X) (k : ℕ) → AllPairs (λ x y. cycle x + gap ≤ cycle y) (own k l) → IsBehind (cycle x) (own (node x) l) → Dec (node x ≡ k) → AllPairs (λ x y. cycle x + gap ≤ cycle y) (own k (l ++ x ∷ []))
  push_case l x k old late (no d) = subst (AllPairs (λ (x y : X). cycle x + gap ≤ cycle y)) (sym (own_no k l x d)) old
  push_case l x k old late (yes e) =
      let behind : IsBehind (cycle x) (own k l) = subst (λ (m : ℕ). IsBehind (cycle x) (own m l)) e late in
      subst (AllPairs (λ (x y : X). cycle x + gap ≤ cycle y)) (sym (own_yes k l x e)) (all_pairs_push (λ (x y : X). cycle x + gap ≤ cycle y) (own k l) x old behind)

  apart_upto : (xs : List X) (d : X) (k n : ℕ) → n ≤ length xs → KeepsBelow IsNext xs n → AllPairs (λ x y. cycle x + gap ≤ cycle y) (own k (take n xs))
  apart_upto xs d k zero h keep = λ i j e lt le. absurd (omega arith)
  apart_upto xs d k (suc n) h keep =
      let e : suc n ≡ n + 1 = omega arith in
      let old = apart_upto xs d k n (omega arith) (λ i d lt. keep i d (omega arith)) in
      let x = get_or xs n d in
      subst (λ (l : List X). AllPairs (λ x y. cycle x + gap ≤ cycle y) (own k l)) (sym (ap (λ (m : ℕ). take m xs) e ∙ take_more xs n d (omega arith)))
      (push_case (take n xs) x k old (keep n d (omega arith)).1 (ℕ_discrete (node x) k))

  pub inside_all : (xs : List X) → AllKeep IsNext xs → All (λ x. IsInside t (node x) (cycle x)) xs
  inside_all xs keep i d lt = (keep i d lt).0

  pub apart_all : (xs : List X) (k : ℕ) → AllKeep IsNext xs → AllPairs (λ x y. cycle x + gap ≤ cycle y) (own k xs)
  apart_all xs k keep i j d lt le =
      subst (λ (l : List X). AllPairs (λ x y. cycle x + gap ≤ cycle y) (own k l)) (take_all (length xs) xs (omega arith)) (apart_upto xs d k (length xs) (omega arith) keep) i j d lt le

  pairs_last : (fs bs : List X) (x : X) → AllPairs (λ x y. cycle x + gap ≤ cycle y) (fs ++ x ∷ bs) → IsBehind (cycle x) fs
  pairs_last fs bs x p k d lt =
      let h : cycle (get_or (fs ++ x ∷ bs) k d) + gap ≤ cycle (get_or (fs ++ x ∷ bs) (length fs) d) = p k (length fs) d lt (omega (arith, length-append fs (x ∷ bs))) in
      let a = ap cycle (get_or_append_left fs (x ∷ bs) d k lt) in
      let b = ap cycle (get_or_at fs x bs d (length fs) refl) in
      omega arith

  pub keep_all : (xs : List X) → All (λ x. IsInside t (node x) (cycle x)) xs → ((k : ℕ) → AllPairs (λ x y. cycle x + gap ≤ cycle y) (own k xs)) → AllKeep IsNext xs
  keep_all xs inside apart i d lt =
      let x = get_or xs i d in
      let k = node x in
      let same : (node x == k) ≡ true = grind (arith, nat_tests) in
      let rest : own k (drop i xs) ≡ x ∷ own k (drop (suc i) xs) = ap (own k) (drop-cons xs i d lt) ∙ ap (λ (b : Bool). cond b (x ∷ own k (drop (suc i) xs)) (own k (drop (suc i) xs))) same in
      let whole : own k xs ≡ own k (take i xs) ++ x ∷ own k (drop (suc i) xs) =
      ap (own k) (sym (take-append-drop i xs)) ∙ filter-append (λ (y : X). node y == k) (take i xs) (drop i xs) ∙ ap (λ (l : List X). own k (take i xs) ++ l) rest in
      (inside i d lt, pairs_last (own k (take i xs)) (own k (drop (suc i) xs)) x (subst (AllPairs (λ x y. cycle x + gap ≤ cycle y)) whole (apart k)))
