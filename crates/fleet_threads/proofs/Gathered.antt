-- The rows of the nodes, one after another, and in order of cycle.
use Rattle.std.proofs.Common.{◌≡◌, ℕ, zero, suc, ◌+◌, ◌<◌, ◌≤◌, ◌⊎◌, inl, inr, ⊎_elim, Bool, true, false, cond, List, [], ◌∷◌, ◌++◌, map, length, take, get_or, refl, sym, subst, ◌∙◌, ap, arith, append-nil}
use Rattle.std.specs.Prelude.{is_some}
use Rattle.std.specs.List.{flat_map}
use Rattle.std.specs.List.Sorted.{IsNonDecreasingBy, IsStableByKey}
use Rattle.std.specs.Ordering.{nat_cmp}
use Rattle.std.proofs.lemmas.List.{take_more, take_all}
use Rattle.std.proofs.lemmas.List.Concat.{flat_map-append, flat_map_single}
use Rattle.air_base.specs.Each.{each_below}
use Rattle.node_core.specs.declared.row.Row.{Row}
use Rattle.node_core.specs.State.{NodeState}
use Rattle.node_core.specs.Cycle.{node_kind, end_row}
use Rattle.world_core.specs.Order.{Fleet, node_at, world_at, rows_between, end_rows}
use Rattle.world_core.proofs.Alone.{rows_join, rows_none}
use Rattle.world_core.proofs.Sorted.{Agree}
use Rattle.send_order.proofs.KeptSends.{agree_by}
use Rattle.world_core.proofs.OrderRows.{rows_merged, stopped_rows, stopped_state}
use Rattle.node_runner.specs.Scenario.{ScenarioOf, IsScenario, fleet_of}
use Rattle.node_runner.specs.Place.{Place, is_live, rows_of}
use Rattle.node_runner.proofs.Sound.{sound}
use Rattle.node_runner.specs.Flight.{place_at, IsAt, IsTaken}
use Rattle.node_runner.specs.Gather.{end_row_of}
use Rattle.node_runner.proofs.Places.{still_calm, still_over, home}

-- lists by number and lists of places
module _ {X : Type 0} where
  each_flat : (n : ℕ) (f : Place → List X) (g : ℕ → List X) (ps : List Place) (d : Place) → n ≤ length ps → ((k : ℕ) → k < n → f (place_at ps k d) ≡ g k) → flat_map f (take n ps) ≡ each_below n g
  each_flat zero f g ps d l e = refl
  each_flat (suc n) f g ps d l e =
      let q : suc n ≡ n + 1 = omega arith in
      ap (λ (m : ℕ). flat_map f (take m ps)) q ∙ ap (flat_map f) (take_more ps n d (omega arith)) ∙ flat_map-append f (take n ps) (get_or ps n d ∷ [])
      ∙ (λ i. each_flat n f g ps d (omega arith) (λ k h. e k (omega arith)) i ++ (append-nil (f (get_or ps n d)) ∙ e n (omega arith)) i)

  pub all_flat : (f : Place → List X) (g : ℕ → List X) (ps : List Place) (d : Place) → ((k : ℕ) → k < length ps → f (place_at ps k d) ≡ g k) → flat_map f ps ≡ each_below (length ps) g
  all_flat f g ps d e = ap (flat_map f) (sym (take_all (length ps) ps (omega arith))) ∙ each_flat (length ps) f g ps d (omega arith) e

begun_of : Place → List Row
begun_of p = node_kind.begun_rows p.cycle (node_at (fleet_of p.scenario) p.number p.cycle)

plain_rows_of : (p : Place) → p.asking ≡ false → rows_of p ≡ rows_between (fleet_of p.scenario) p.number p.since p.cycle
unfolding begun_of
plain_rows_of p e =
    ap (λ (b : Bool). rows_between (fleet_of p.scenario) p.number p.since p.cycle ++ cond b (begun_of p) []) e ∙ append-nil (rows_between (fleet_of p.scenario) p.number p.since p.cycle)

-- all runners have come to the cycle `end`
module _ (sc : ScenarioOf) (since end : ℕ) (ps : List Place) (ok : IsScenario sc) (limit : end ≤ sc.topo.limit) (count : length ps ≡ sc.topo.nodes)
    (at : (k : ℕ) (d : Place) → k < sc.topo.nodes → IsAt sc end k (place_at ps k d))
    (took : (k : ℕ) (d : Place) → k < sc.topo.nodes → IsTaken sc since k (place_at ps k d))
    (still : (k : ℕ) (d : Place) → k < length ps → is_live end (place_at ps k d) ≡ false) (begun : since ≤ end) where
  abbrev f : Fleet NodeState Row
  f = fleet_of sc

  pub over_at : (k : ℕ) (d : Place) → k < sc.topo.nodes → (is_some (node_at f k (place_at ps k d).cycle).stop ≡ true) ⊎ (end ≤ (place_at ps k d).cycle)
  over_at k d h =
      let p = at k d h in
      home (λ z n. (is_some (node_at (fleet_of z) n (place_at ps k d).cycle).stop ≡ true) ⊎ (end ≤ (place_at ps k d).cycle)) (place_at ps k d) sc k p.scenario p.number (still_over end (place_at ps k d) (still k d (omega arith)))

  -- the rows of a node up to the end
  rows_to : (k c : ℕ) → since ≤ c → c ≤ end → (is_some (node_at f k c).stop ≡ true) ⊎ (end ≤ c) → rows_between f k since c ≡ rows_between f k since end
  rows_to k c a b (inl stop) = sym (rows_join f k since c end a b ∙ ap (λ (l : List Row). rows_between f k since c ++ l) (stopped_rows f (sound sc ok) k c end (omega arith) stop) ∙ append-nil (rows_between f k since c))
  rows_to k c a b (inr past) = let e : c ≡ end = omega arith in ap (rows_between f k since) e

  taken_rows : (k : ℕ) (p : Place) → IsTaken sc since k p → p.cycle ≤ end → (is_some (node_at f k p.cycle).stop ≡ true) ⊎ (end ≤ p.cycle) → rows_between f k p.since p.cycle ≡ rows_between f k since end
  taken_rows k p (inl t) w over = ap (λ (n : ℕ). rows_between f k n p.cycle) t.0 ∙ rows_to k p.cycle t.1 w over
  taken_rows k p (inr r) w over =
      let now : is_some (node_at f k since).stop ≡ true = ap (λ (u : NodeState). is_some u.stop) (stopped_state f (sound sc ok) k p.cycle since (omega arith) r.2 r.0) ∙ r.0 in
      ap (λ (n : ℕ). rows_between f k n p.cycle) r.1 ∙ rows_none f k p.cycle ∙ sym (stopped_rows f (sound sc ok) k since end (omega arith) now)

  node_rows : (k : ℕ) (d : Place) → k < sc.topo.nodes → rows_of (place_at ps k d) ≡ rows_between f k since end
  node_rows k d h =
      let p = at k d h in
      plain_rows_of (place_at ps k d) (still_calm end (place_at ps k d) (still k d (omega arith)))
      ∙ (λ i. rows_between (fleet_of (p.scenario i)) (p.number i) (place_at ps k d).since (place_at ps k d).cycle)
      ∙ taken_rows k (place_at ps k d) (took k d h) p.within (over_at k d h)

  -- gathered and sorted, they are the rows of the cycles from the last taking on
  pub gathered : (d : Place) (ys : List Row) → IsNonDecreasingBy (λ r. r.cycle) ys → IsStableByKey (λ r. r.cycle) nat_cmp (flat_map rows_of ps) ys → (world_at f end).rows ≡ (world_at f since).rows ++ ys
  gathered d ys up stable =
      let same : flat_map rows_of ps ≡ each_below sc.topo.nodes (λ k. rows_between f k since end) =
      all_flat rows_of (λ k. rows_between f k since end) ps d (λ k h. node_rows k d (omega arith)) ∙ ap (λ (n : ℕ). each_below n (λ k. rows_between f k since end)) count in
      rows_merged f (sound sc ok).kind since end ys (omega arith) begun up (subst (Agree (λ (r : Row). r.cycle) ys) same (agree_by (λ r. r.cycle) (flat_map rows_of ps) ys stable))

  -- the last row of each
  end_at : (k : ℕ) (d : Place) → k < sc.topo.nodes → end ≡ sc.topo.limit → end_row_of (place_at ps k d) ≡ end_row sc.topo.limit (node_at f k sc.topo.limit)
  end_at k d h whole =
      let p = at k d h in
      let c : ℕ = (place_at ps k d).cycle in
      let same : node_at f k c ≡ node_at f k sc.topo.limit =
      ⊎_elim (λ (stop : is_some (node_at f k c).stop ≡ true). sym (stopped_state f (sound sc ok) k c sc.topo.limit (omega arith) (let x = p.within in omega arith) stop))
      (λ (past : end ≤ c). let e : c ≡ sc.topo.limit = (let x = p.within in omega arith) in ap (node_at f k) e) (over_at k d h) in
      (λ i. end_row (p.scenario i).topo.limit (node_at (fleet_of (p.scenario i)) (p.number i) c)) ∙ ap (end_row sc.topo.limit) same

  pub ends_are : (d : Place) → end ≡ sc.topo.limit → map end_row_of ps ≡ end_rows f
  ends_are d whole =
      sym (flat_map_single end_row_of ps)
      ∙ all_flat (λ (p : Place). end_row_of p ∷ []) (λ k. end_row sc.topo.limit (node_at f k sc.topo.limit) ∷ []) ps d (λ k h. ap (λ (r : Row). r ∷ []) (end_at k d (omega arith) whole))
      ∙ ap (λ (n : ℕ). each_below n (λ k. end_row sc.topo.limit (node_at f k sc.topo.limit) ∷ [])) count
