-- The rows of a run, from one epoch to the next.
use Rattle.std.proofs.Common.{◌≡◌, ◌≢◌, ℕ, ◌<◌, inr, Bool, false, cond, ◌==◌, List, [], ◌∷◌, ◌++◌, length, refl, sym, subst, ◌∙◌, ap, arith, append-nil, append_assoc}
use Rattle.std.specs.List.{All, filter}
use Rattle.std.specs.List.Sorted.{IsNonDecreasingBy, IsStableByKey}
use Rattle.std.specs.Ordering.{nat_cmp}
use Rattle.std.proofs.lemmas.Bool.Decides.{nat_tests}
use native.Mathlib.Decide.{ℕ_discrete}
use Rattle.air_base.specs.declared.air.Send.{Send}
use Rattle.world_core.specs.Chain.{Rises}
use Rattle.air_base.specs.Each.{each_below}
use Rattle.world_core.specs.Kept.{is_kept}
use Rattle.air_base.specs.NodeRun.{Timed}
use Rattle.world_core.specs.Order.{Fleet, Moment, end_rows, node_at, rows_between, world_at}
use Rattle.world_core.specs.Sends.{sends_of}
use Rattle.world_core.proofs.Alone.{rows_none}
use Rattle.air_base.proofs.Each.{each_same}
use Rattle.world_core.proofs.OrderRows.{rows_merged}
use Rattle.world_core.proofs.Sends.{first}
use Rattle.world_core.proofs.Sorted.{Agree}
use Rattle.node_core.specs.Cycle.{end_row}
use Rattle.node_core.specs.declared.row.Row.{Row}
use Rattle.node_core.specs.State.{NodeState}
use Rattle.node_core.proofs.Steady.{steady}
use Rattle.fleet_flight.specs.Rows.{rows_upto}
use Rattle.send_order.proofs.KeptSends.{agree_by}
use Rattle.fleet_flight.specs.Origin.{Origin, flown}
use Rattle.fleet_flight.specs.Paused.{AreTaken, AtRest, HaveBegun, IsPaused, ends_of, node_in, rows_of}

differ : (a b : ℕ) → a ≢ b → (a == b) ≡ false
differ a b e = grind (arith, nat_tests)

-- the rows below a cycle before the limit
below : (f : Fleet NodeState Row) (c : ℕ) → c < f.topo.limit → rows_upto f c ≡ (world_at f c).rows
below f c lt =
    let q = differ c f.topo.limit (λ e. absurd (omega arith)) in
    ap (λ (b : Bool). (world_at f c).rows ++ cond b (end_rows f) []) q ∙ append-nil (world_at f c).rows

-- before the first epoch there are none
pub first_rows : (f : Fleet NodeState Row) → f.start < f.topo.limit → rows_upto f f.start ≡ []
first_rows f lt = below f f.start lt ∙ ap (λ (w : Moment NodeState Row). w.rows) (first f)

module _ (o : Origin) where
  abbrev f : Fleet NodeState Row
  f = flown o

  -- some node
  nobody : Timed NodeState Row
  nobody = record { cycle = 0; asking = false; state = f.begins 0; rows = [] }

  -- ---- an epoch
  module _ (floor end : ℕ) (vs : List (Timed NodeState Row)) (xs : List Send) (paused : IsPaused f floor end vs xs) where
    gathered : (rows ys : List Row) → ((d : Timed NodeState Row) → rows ≡ rows_of (length vs) vs d) → IsNonDecreasingBy (λ r. r.cycle) ys → IsStableByKey (λ r. r.cycle) nat_cmp rows ys → (world_at f end).rows ≡ (world_at f floor).rows ++ ys
    gathered rows ys all up stable =
        let same : rows ≡ each_below o.topo.nodes (λ k. rows_between f k floor end) =
        all nobody ∙ ap (λ (n : ℕ). each_below n (λ k. (node_in vs k nobody).rows)) paused.count
        ∙ each_same o.topo.nodes (λ k. (node_in vs k nobody).rows) (λ k. rows_between f k floor end) (λ k l. (paused.nodes k nobody l).rows) in
        rows_merged f steady floor end ys paused.begun paused.later up (subst (Agree (λ (r : Row). r.cycle) ys) same (agree_by (λ r. r.cycle) rows ys stable))

    ends_are : end ≡ o.topo.limit → ends_of o.topo.limit (length vs) vs nobody ≡ end_rows f
    ends_are whole =
        ap (λ (n : ℕ). ends_of o.topo.limit n vs nobody) paused.count
        ∙ each_same o.topo.nodes (λ k. end_row o.topo.limit (node_in vs k nobody).state ∷ []) (λ k. end_row o.topo.limit (node_at f k o.topo.limit) ∷ [])
        (λ k l. let here = (paused.nodes k nobody l).state ∙ ap (node_at f k) whole in ap (λ (u : NodeState). end_row o.topo.limit u ∷ []) here)

    last_case : (last : List Row) → last ≡ cond (end == o.topo.limit) (ends_of o.topo.limit (length vs) vs nobody) [] → Dec (end ≡ o.topo.limit) → cond (end == o.topo.limit) (end_rows f) [] ≡ last
    last_case last e (yes whole) = ap (λ (l : List Row). cond (end == o.topo.limit) l []) (sym (ends_are whole)) ∙ sym e
    last_case last e (no d) =
        let q = differ end o.topo.limit d in
        ap (λ (b : Bool). cond b (end_rows f) []) q ∙ sym (ap (λ (b : Bool). cond b (ends_of o.topo.limit (length vs) vs nobody) []) q) ∙ sym e

    pub next_rows : (rows ys last zs : List Row) → ((d : Timed NodeState Row) → rows ≡ rows_of (length vs) vs d) → floor < o.topo.limit → IsNonDecreasingBy (λ r. r.cycle) ys → IsStableByKey (λ r. r.cycle) nat_cmp rows ys
        → ((d : Timed NodeState Row) → last ≡ cond (end == o.topo.limit) (ends_of o.topo.limit (length vs) vs d) []) → zs ≡ ys ++ last → rows_upto f end ≡ rows_upto f floor ++ zs
    next_rows rows ys last zs all more up stable l e =
        (λ i. gathered rows ys all up stable i ++ last_case last (l nobody) (ℕ_discrete end o.topo.limit) i) ∙ append_assoc (world_at f floor).rows ys last
        ∙ (λ i. sym (below f floor more) i ++ sym e i)

    emptied : (k : ℕ) (v w : Timed NodeState Row) → w ≡ record v { rows = [] } → AtRest f floor end k v → AtRest f end end k w
    emptied k v w e at =
        subst (AtRest f end end k) (sym e)
        (record { calm = at.calm; has = record { within = at.has.within; over = at.has.over }; state = at.state; rows = sym (rows_none f k end) })

    pub next_paused : (ws : List (Timed NodeState Row)) → AreTaken vs ws → IsPaused f end end ws xs
    next_paused ws taken = record {
      begun = (let a = paused.begun in let b = paused.later in omega arith);
      later = omega arith;
      count = taken.count ∙ paused.count;
      nodes = (λ k d l. emptied k (node_in vs k d) (node_in ws k d) (taken.nodes k d (let c = paused.count in omega arith)) (paused.nodes k d l));
      kept = paused.kept;
      inside = paused.inside;
      rises = paused.rises;
    }

    pub all_calm : All (λ v. v.asking ≡ false) vs
    all_calm k d l = (paused.nodes k d (let c = paused.count in omega arith)).calm

  -- ---- the beginning
  at_origin : (k : ℕ) (v : Timed NodeState Row) → v ≡ record { cycle = o.cycle; asking = false; state = o.states k; rows = [] } → AtRest f o.cycle o.cycle k v
  at_origin k v e =
      subst (AtRest f o.cycle o.cycle k) (sym e)
      (record {
        calm = refl;
        has = record { within = omega arith; over = inr refl };
        state = sym (ap (λ (w : Moment NodeState Row). w.state k) (first f));
        rows = sym (rows_none f k o.cycle);
      })

  pub first_paused : (vs : List (Timed NodeState Row)) (xs : List Send) → All (λ x. (x.node < o.topo.nodes) × (x.cycle < o.cycle)) o.sends → Rises o.sends → HaveBegun o o.topo.nodes vs → xs ≡ o.sends → IsPaused f o.cycle o.cycle vs xs
  first_paused vs xs inside rises all e =
      let here : xs ≡ (world_at f o.cycle).sends = e ∙ sym (ap (λ (w : Moment NodeState Row). w.sends) (first f)) in
      record {
        begun = omega arith;
        later = omega arith;
        count = all.count;
        nodes = (λ k d l. at_origin k (node_in vs k d) (all.nodes k d l));
        kept = (λ m. ap (λ (l : List Send). sends_of m (filter (is_kept o.topo o.cycle) l)) here);
        inside = subst (All (λ (x : Send). (x.node < o.topo.nodes) × (x.cycle < o.cycle))) (sym e) inside;
        rises = subst (λ (l : List Send). Rises l) (sym e) rises;
      }
