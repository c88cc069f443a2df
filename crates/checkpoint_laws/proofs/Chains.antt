-- States that are saved one behind another.
use Rattle.std.proofs.Common.{◌≡◌, ℕ, ◌+◌, ◌≤◌, List, [], ◌∷◌, ◌++◌, sum, sym, ap, ◌∙◌, arith, append-nil, append_assoc}
use Rattle.std.proofs.lemmas.List.Sums.{sum_by-cons}
use Rattle.world_core.specs.Order.{world_at}
use Rattle.node_core.specs.declared.row.Row.{Row}
use Rattle.node_runner.specs.Scenario.{IsScenario, ScenarioOf, fleet_of}
use Rattle.node_laws.proofs.Images.{AreImages}
use Rattle.state_text.specs.Text.{StateOf}
use Rattle.checkpoint_text.specs.Onward.{onward}
use Rattle.checkpoint_text.specs.State.{saved_at}
use Rattle.checkpoint_laws.specs.Chain.{rows_behind, saved_behind}
use Rattle.checkpoint_laws.proofs.Kept.{rows_on, saved_on}

module _ (sc : ScenarioOf) (ok : IsScenario sc) (images : AreImages sc) where
  pub states_behind : (c : ℕ) (ns : List ℕ) → c + sum ns ≤ sc.topo.limit → saved_behind sc (saved_at sc c) ns ≡ saved_at sc (c + sum ns)
  states_behind c [] lim = let e : c ≡ c + 0 = omega arith in ap (saved_at sc) e
  states_behind c (n ∷ ns) lim =
      let more : sum (n ∷ ns) ≡ n + sum ns = sum_by-cons (λ x. x) n ns in
      let all : c + (n + sum ns) ≤ sc.topo.limit = omega (arith, more, lim) in
      let e : c + n + sum ns ≡ c + sum (n ∷ ns) = omega (arith, more) in
      ap (λ (st : StateOf). saved_behind sc st ns) (saved_on sc c ok images (omega (arith, all)) (c + n) (omega arith))
      ∙ states_behind (c + n) ns (omega (arith, all)) ∙ ap (saved_at sc) e

  pub rows_are : (c : ℕ) (ns : List ℕ) → c + sum ns ≤ sc.topo.limit
      → (world_at (fleet_of sc) (c + sum ns)).rows ≡ (world_at (fleet_of sc) c).rows ++ rows_behind sc (saved_at sc c) ns
  rows_are c [] lim = let e : c + 0 ≡ c = omega arith in ap (λ (t : ℕ). (world_at (fleet_of sc) t).rows) e ∙ sym (append-nil (world_at (fleet_of sc) c).rows)
  rows_are c (n ∷ ns) lim =
      let more : sum (n ∷ ns) ≡ n + sum ns = sum_by-cons (λ x. x) n ns in
      let all : c + (n + sum ns) ≤ sc.topo.limit = omega (arith, more, lim) in
      let e : c + sum (n ∷ ns) ≡ c + n + sum ns = omega (arith, more) in
      let first = (world_at (fleet_of sc) c).rows in
      let next = (world_at (onward sc (saved_at sc c)) (c + n)).rows in
      ap (λ (t : ℕ). (world_at (fleet_of sc) t).rows) e ∙ rows_are (c + n) ns (omega (arith, all))
      ∙ ap (λ (l : List Row). l ++ rows_behind sc (saved_at sc (c + n)) ns) (rows_on sc c ok images (omega (arith, all)) (c + n) (omega arith))
      ∙ append_assoc first next (rows_behind sc (saved_at sc (c + n)) ns)
      ∙ ap (λ (st : StateOf). first ++ (next ++ rows_behind sc st ns)) (sym (saved_on sc c ok images (omega (arith, all)) (c + n) (omega arith)))
