-- Loops over all nodes: so many of them have been served, and the others are as they were.
use Rattle.std.proofs.Common.{◌≡◌, ◌≢◌, ℕ, suc, ◌+◌, ◌-◌, ◌<◌, ◌≤◌, false, List, [], ◌∷◌, ◌++◌, length, set, refl, sym, subst, ◌∙◌, ap, arith, length-set}
use Rattle.std.proofs.lemmas.List.{get_or-set_same, get_or-set_other, get_or_append_left, get_or-append_right, get_or_default, length-append}
use Rattle.std.proofs.Common.{get_or}
use native.Mathlib.Decide.{ℕ_discrete}
use Rattle.air_base.specs.Each.{each_below}
use Rattle.air_base.specs.NodeRun.{Timed}
use Rattle.air_base.proofs.Each.{each_same}
use Rattle.node_core.specs.declared.row.Row.{Row}
use Rattle.node_core.specs.State.{NodeState}
use Rattle.node_core.specs.Cycle.{end_row}
use Rattle.fleet_flight.specs.Origin.{Origin}
use Rattle.fleet_flight.specs.Paused.{AreTaken, HaveBegun, ends_of, node_in, rows_of}

-- one more of what is made number by number
pub one_more : {X : Type 0} (k : ℕ) (g h : ℕ → List X) → ((j : ℕ) → j < k → g j ≡ h j) → each_below (k + 1) h ≡ each_below k g ++ h k
one_more k g h same =
    let e : k + 1 ≡ suc k = omega arith in
    ap (λ (n : ℕ). each_below n h) e ∙ ap (λ (l : List _). l ++ h k) (sym (each_same k g h same))

module _ {S R : Type 0} where
  -- the list with another node k
  pub at_own : (items : List (Timed S R)) (k : ℕ) (q d : Timed S R) → k < length items → node_in (set items k q) k d ≡ q
  at_own items k q d lt = get_or-set_same items k q d lt

  pub at_other : (items : List (Timed S R)) (k j : ℕ) (q d : Timed S R) → j ≢ k → node_in (set items k q) j d ≡ node_in items j d
  at_other items k j q d ne = get_or-set_other items k j q d ne

  -- ---- the rows are taken from each
  module _ (vs : List (Timed S R)) where
    pub record TakenSo (k : ℕ) (items : List (Timed S R)) : Type 0 where
      pub count : length items ≡ length vs
      pub done : (j : ℕ) (d : Timed S R) → j < k → node_in items j d ≡ record (node_in vs j d) { rows = [] }
      pub left : (j : ℕ) (d : Timed S R) → k ≤ j → node_in items j d ≡ node_in vs j d

    pub taken_none : TakenSo 0 vs
    taken_none = record { count = refl; done = (λ j d lt. absurd (omega arith)); left = (λ j d le. refl) }

    module _ (k : ℕ) (items : List (Timed S R)) (so : TakenSo k items) (lt : k < length vs) (p q : Timed S R) (at : p ≡ node_in items k p) (empty : q ≡ record p { rows = [] }) where
      here : (d : Timed S R) → node_in vs k d ≡ p
      here d = get_or_default vs k d p lt ∙ sym (at ∙ so.left k p (omega arith))

      emptied : (j : ℕ) (d : Timed S R) → Dec (j ≡ k) → j < k + 1 → node_in (set items k q) j d ≡ record (node_in vs j d) { rows = [] }
      emptied j d (yes e) l =
          subst (λ (i : ℕ). node_in (set items k q) i d ≡ record (node_in vs i d) { rows = [] }) (sym e)
          (at_own items k q d (let c = so.count in omega arith) ∙ empty ∙ ap (λ (v : Timed S R). record v { rows = [] }) (sym (here d)))
      emptied j d (no ne) l = at_other items k j q d ne ∙ so.done j d (omega arith)

      pub taken_more : TakenSo (k + 1) (set items k q)
      taken_more = record {
        count = length-set items k q ∙ so.count;
        done = (λ j d l. emptied j d (ℕ_discrete j k) l);
        left = (λ j d le. at_other items k j q d (λ e. absurd (omega arith)) ∙ so.left j d (omega arith));
      }

      pub rows_more : (rows ys : List R) (d : Timed S R) → rows ≡ rows_of k vs d → ys ≡ rows ++ p.rows → ys ≡ rows_of (k + 1) vs d
      rows_more rows ys d e more =
          more ∙ (λ i. e i ++ (sym (here d) i).rows) ∙ sym (one_more k (λ j. (node_in vs j d).rows) (λ j. (node_in vs j d).rows) (λ j l. refl))

    pub all_taken : (k : ℕ) (items : List (Timed S R)) → TakenSo k items → length vs ≤ k → AreTaken vs items
    all_taken k items so low = record { count = so.count; nodes = (λ j d l. so.done j d (omega arith)) }

-- ---- the last rows
pub ends_more : (limit k : ℕ) (vs : List (Timed NodeState Row)) (p d : Timed NodeState Row) (rows : List Row) (r : Row) → k < length vs → p ≡ node_in vs k p → r ≡ end_row limit p.state → rows ≡ ends_of limit k vs d → rows ++ r ∷ [] ≡ ends_of limit (k + 1) vs d
ends_more limit k vs p d rows r lt at last e =
    let here : p ≡ node_in vs k d = at ∙ get_or_default vs k p d lt in
    (λ i. e i ++ (last ∙ ap (λ (v : Timed NodeState Row). end_row limit v.state) here) i ∷ [])
    ∙ sym (one_more k (λ j. end_row limit (node_in vs j d).state ∷ []) (λ j. end_row limit (node_in vs j d).state ∷ []) (λ j l. refl))

-- ---- the nodes where the run begins
module _ (o : Origin) where
  abbrev begun : ℕ → Timed NodeState Row
  begun k = record { cycle = o.cycle; asking = false; state = o.states k; rows = [] }

  pub none_begun : (vs : List (Timed NodeState Row)) → vs ≡ [] → HaveBegun o 0 vs
  none_begun vs e = record { count = ap length e; nodes = (λ k d lt. absurd (omega arith)) }

  more_case : (n : ℕ) (vs : List (Timed NodeState Row)) (p : Timed NodeState Row) → HaveBegun o n vs → p ≡ begun n → (k : ℕ) (d : Timed NodeState Row) → Dec (k ≡ n) → k < n + 1 → node_in (vs ++ p ∷ []) k d ≡ begun k
  more_case n vs p so e k d (yes q) l =
      let z : n - n ≡ 0 = omega arith in
      ap (λ (i : ℕ). node_in (vs ++ p ∷ []) i d) q ∙ get_or-append_right vs (p ∷ []) n n d so.count (omega arith) ∙ ap (λ (i : ℕ). get_or (p ∷ []) i d) z ∙ e ∙ ap begun (sym q)
  more_case n vs p so e k d (no g) l = let c = so.count in get_or_append_left vs (p ∷ []) d k (omega arith) ∙ so.nodes k d (omega arith)

  pub one_begun : (n : ℕ) (vs ws : List (Timed NodeState Row)) (p : Timed NodeState Row) → HaveBegun o n vs → p ≡ begun n → ws ≡ vs ++ p ∷ [] → HaveBegun o (n + 1) ws
  one_begun n vs ws p so e q =
      subst (HaveBegun o (n + 1)) (sym q)
      (record { count = (let a = length-append vs (p ∷ []) in let c = so.count in omega arith); nodes = (λ k d l. more_case n vs p so e k d (ℕ_discrete k n) l) })
