-- Lists of nodes: their numbers, and what holds of each.
use Rattle.std.proofs.Common.{◌≡◌, ℕ, zero, suc, ◌+◌, ◌≤◌, ◌<◌, List, [], ◌∷◌, ◌++◌, length, get_or, set, refl, sym, subst, ◌∙◌, ap, arith}
use Rattle.std.proofs.lemmas.List.{length_push, map_push, length-map, get_or-map, get_or-set_same, get_or-set_other}
use Rattle.std.proofs.lemmas.List.Sums.{sum_by-set}
use native.Mathlib.Decide.{ℕ_discrete}
use Rattle.fleet_threads.specs.declared.member.Member.{Member}
use Rattle.fleet_threads.specs.Answers.{LooksOnce}
use Rattle.fleet_threads.specs.Member.{IsOver, InOrder, all_looks, looks_of, numbers, number_of}

pub pushed : (xs ys : List Member) (m : Member) → ys ≡ xs ++ m ∷ [] → numbers ys ≡ numbers xs ++ m.runner.number ∷ []
pushed xs ys m e = ap numbers e ∙ map_push number_of xs m

-- a list with an element put behind it is not empty
pub not_emptied : (xs : List ℕ) (x : ℕ) → [] ≡ xs ++ x ∷ [] → ⊥
not_emptied xs x e = let n = ap length e in let m = length_push xs x in omega arith

pub emptied : (xs : List Member) → length xs ≡ 0 → numbers xs ≡ []
emptied [] e = refl
emptied (x ∷ xs) e = absurd (omega arith)

-- a node is put in another's place that has the same number
set_numbers : (xs : List Member) (i : ℕ) (m : Member) (k : ℕ) → get_or (numbers xs) i k ≡ m.runner.number → i < length xs → numbers (set xs i m) ≡ numbers xs
set_numbers [] i m k e lt = absurd (omega arith)
set_numbers (x ∷ xs) zero m k e lt = ap (λ (n : ℕ). n ∷ numbers xs) (sym e)
set_numbers (x ∷ xs) (suc i) m k e lt = ap (λ (l : List ℕ). x.runner.number ∷ l) (set_numbers xs i m k e (omega arith))

pub stepped : (xs : List Member) (i : ℕ) (d m : Member) → i < length xs → m.runner.number ≡ (get_or xs i d).runner.number → numbers (set xs i m) ≡ numbers xs
stepped xs i d m lt e = set_numbers xs i m (d.runner.number) (get_or-map number_of xs i d (d.runner.number) lt ∙ sym e) lt

-- one more of the first i is over
over_case : (end : ℕ) (xs : List Member) (i : ℕ) (m : Member) → i < length xs → ((j : ℕ) (d : Member) → j < i → IsOver end (get_or xs j d)) → IsOver end m → (j : ℕ) (d : Member) → Dec (j ≡ i) → j < i + 1 → IsOver end (get_or (set xs i m) j d)
over_case end xs i m lt all here j d (yes e) l =
    subst (λ (k : ℕ). IsOver end (get_or (set xs i m) k d)) (sym e) (subst (IsOver end) (sym (get_or-set_same xs i m d lt)) here)
over_case end xs i m lt all here j d (no e) l = subst (IsOver end) (sym (get_or-set_other xs i j m d e)) (all j d (omega arith))

pub one_more_over : (end : ℕ) (xs : List Member) (i : ℕ) (m : Member) → i < length xs → ((j : ℕ) (d : Member) → j < i → IsOver end (get_or xs j d)) → IsOver end m → (j : ℕ) (d : Member) → j < i + 1 → IsOver end (get_or (set xs i m) j d)
one_more_over end xs i m lt all here j d l = over_case end xs i m lt all here j d (ℕ_discrete j i) l

-- one of them has looked once more, at most
pub one_more_look : (xs : List Member) (i : ℕ) (d m : Member) → i < length xs → d ≡ get_or xs i d → LooksOnce d.air m.air → all_looks (set xs i m) ≤ all_looks xs + 1
one_more_look xs i d m lt is once =
    let sums : all_looks (set xs i m) + looks_of (get_or xs i d) ≡ all_looks xs + looks_of m = sum_by-set looks_of xs i m d lt in
    let same : looks_of d ≡ looks_of (get_or xs i d) = ap looks_of is in
    omega arith

-- the numbers of nodes in order tell where each stands
pub ordered : (n : ℕ) (xs ys : List Member) → InOrder n xs → numbers ys ≡ numbers xs → InOrder n ys
ordered n xs ys o e =
    let long : length ys ≡ length xs = sym (length-map ys number_of) ∙ ap length e ∙ length-map xs number_of in
    record {
      count = long ∙ o.count;
      each = (λ k d lt.
          let c = o.count in
          sym (get_or-map number_of ys k d 0 (omega arith)) ∙ ap (λ (l : List ℕ). get_or l k 0) e ∙ get_or-map number_of xs k d 0 (omega arith) ∙ o.each k d lt);
    }
