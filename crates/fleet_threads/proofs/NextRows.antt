-- The rows of a run, from one epoch to the next.
use Rattle.std.proofs.Common.{◌≡◌, ◌≢◌, ℕ, ◌<◌, ◌≤◌, Bool, false, cond, ◌==◌, List, [], ◌++◌, map, length, sym, ap, ◌∙◌, arith, append-nil, append_assoc}
use Rattle.std.specs.List.{flat_map}
use Rattle.std.specs.List.Sorted.{IsNonDecreasingBy, IsStableByKey}
use Rattle.std.specs.Ordering.{nat_cmp}
use Rattle.std.proofs.lemmas.Bool.Decides.{nat_tests}
use native.Mathlib.Decide.{ℕ_discrete}
use Rattle.node_core.specs.declared.row.Row.{Row}
use Rattle.node_core.specs.State.{NodeState}
use Rattle.world_core.specs.Order.{Fleet, world_at, end_rows}
use Rattle.node_runner.specs.Scenario.{ScenarioOf, IsScenario, fleet_of}
use Rattle.node_runner.specs.Place.{Place, is_live, rows_of}
use Rattle.node_runner.specs.Flight.{place_at, IsAt, IsTaken}
use Rattle.node_runner.specs.Gather.{start_of, end_row_of}
use Rattle.fleet_flight.specs.Rows.{rows_upto}
use Rattle.fleet_threads.proofs.Gathered.{gathered, ends_are}

differ : (a b : ℕ) → a ≢ b → (a == b) ≡ false
differ a b e = grind (arith, nat_tests)

-- all runners have come to the cycle `end`
module _ (sc : ScenarioOf) (floor end : ℕ) (ps : List Place) (ok : IsScenario sc) (limit : end ≤ sc.topo.limit) (count : length ps ≡ sc.topo.nodes)
    (at : (k : ℕ) (d : Place) → k < sc.topo.nodes → IsAt sc end k (place_at ps k d))
    (took : (k : ℕ) (d : Place) → k < sc.topo.nodes → IsTaken sc floor k (place_at ps k d))
    (still : (k : ℕ) (d : Place) → k < length ps → is_live end (place_at ps k d) ≡ false) (rises : floor ≤ end) where
  last_case : Dec (end ≡ sc.topo.limit) → cond (end == sc.topo.limit) (map end_row_of ps) [] ≡ cond (end == sc.topo.limit) (end_rows (fleet_of sc)) []
  last_case (yes e) = ap (λ (l : List Row). cond (end == sc.topo.limit) l []) (ends_are sc floor end ps ok limit count at took still rises (start_of sc 0) e)
  last_case (no d) =
      let q = differ end sc.topo.limit d in
      ap (λ (b : Bool). cond b (map end_row_of ps) []) q ∙ sym (ap (λ (b : Bool). cond b (end_rows (fleet_of sc)) []) q)

  pub next_rows : (ys last zs : List Row) → floor < sc.topo.limit → IsNonDecreasingBy (λ r. r.cycle) ys → IsStableByKey (λ r. r.cycle) nat_cmp (flat_map rows_of ps) ys
      → last ≡ cond (end == sc.topo.limit) (map end_row_of ps) [] → zs ≡ ys ++ last → rows_upto (fleet_of sc) end ≡ rows_upto (fleet_of sc) floor ++ zs
  next_rows ys last zs more up stable l e =
      let f : Fleet NodeState Row = fleet_of sc in
      let w : List Row = (world_at f floor).rows in
      let here : rows_upto f floor ≡ w = (let q = differ floor sc.topo.limit (λ g. absurd (omega arith)) in ap (λ (b : Bool). w ++ cond b (end_rows f) []) q ∙ append-nil w) in
      let ends : cond (end == sc.topo.limit) (end_rows f) [] ≡ last = sym (l ∙ last_case (ℕ_discrete end sc.topo.limit)) in
      (λ i. gathered sc floor end ps ok limit count at took still rises (start_of sc 0) ys up stable i ++ ends i) ∙ append_assoc w ys last ∙ (λ i. sym here i ++ sym e i)
