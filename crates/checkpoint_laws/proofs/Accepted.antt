-- What is saved of a run keeps all bounds of a state's text.
use Rattle.std.proofs.Common.{◌≡◌, ℕ, zero, suc, ◌+◌, ◌-◌, ◌^◌, ◌<◌, ◌≤◌, true, List, [], ◌∷◌, map, refl, sym, subst, arith}
use Rattle.std.specs.Prelude.{slice_index}
use Rattle.std.specs.List.{All, AllByRecursion, range_with_len}
use Rattle.std.proofs.lemmas.Bool.{and_parts, ltb-true}
use Rattle.std.proofs.lemmas.List.Elements.{All-filter, All-head, All-tail}
use Rattle.std.proofs.lemmas.List.FromFn.{length-map-range_with_len}
use Rattle.air_base.specs.declared.air.Send.{Send}
use Rattle.world_core.specs.Kept.{is_kept}
use Rattle.world_core.specs.Order.{node_at, world_after, world_at}
use Rattle.board_io.specs.Kept.{io_of}
use Rattle.node_core.specs.Numbers.{numbers_of}
use Rattle.node_core.specs.Restored.{fault_by}
use Rattle.node_core.specs.State.{NodeState}
use Rattle.node_runner.specs.Run.{kept_at}
use Rattle.node_runner.specs.Scenario.{IsScenario, ScenarioOf, fleet_of}
use Rattle.node_runner.proofs.Sound.{sound}
use Rattle.node_laws.specs.Scenario.{IsSaved}
use Rattle.node_laws.proofs.Images.{AreImages}
use Rattle.node_laws.proofs.Restores.{saved}
use Rattle.node_laws.proofs.Worlds.{world_in}
use Rattle.state_text.specs.Bounds.{HasNode, IsState, is_cut}
use Rattle.state_text.specs.Text.{NodeOf}
use Rattle.checkpoint_text.specs.Onward.{IsFit}
use Rattle.checkpoint_text.specs.State.{HasBytes, parts_of, rules_of, saved_at}
use Rattle.checkpoint_text.proofs.Bounded.{has_node}
use Rattle.checkpoint_laws.proofs.InOrder.{sends_are}
use Rattle.checkpoint_laws.proofs.Kept.{by_index}

-- ---- lists
each_is : {X : Type 0} (P : X → Type 0) (xs : List X) → All P xs → AllByRecursion P xs
each_is P [] h = tt
each_is P (x ∷ xs) h = (All-head P x xs h, each_is P xs (All-tail P x xs h))

number_is : (P : ℕ → Type 0) (xs : List ℕ) → ((i : ℕ) → P (slice_index xs i)) → AllByRecursion P xs
number_is P [] h = tt
number_is P (x ∷ xs) h = (h 0, number_is P xs (λ i. h (suc i)))

mapped : (P : NodeOf → Type 0) (g : ℕ → NodeOf) (a n : ℕ) → ((k : ℕ) → k < a + n → P (g k)) → AllByRecursion P (map g (range_with_len a n))
mapped P g a zero h = tt
mapped P g a (suc n) h = (h a (omega arith), mapped P g (a + 1) n (λ k lt. h k (omega arith)))

-- ---- a node
fit : (sc : ScenarioOf) (k c : ℕ) (u : NodeState) → IsSaved sc k c u → IsFit c (parts_of u)
fit sc k c u s = record {
  count = s.count;
  io_count = s.io.length_is;
  sram_count = length-map-range_with_len (λ i. slice_index u.sram i) 0 4096;
  fault = (λ i. fault_by (s.within i) (s.allowed i));
}

bytes : (sc : ScenarioOf) (k c : ℕ) (u : NodeState) → IsSaved sc k c u → HasBytes (parts_of u)
bytes sc k c u s = record {
  wide = number_is (λ x. x < 2 ^ 64) (numbers_of u) s.widths;
  io = number_is (λ x. x < 256) (io_of u.board) (λ i. let b = s.io.bytes i in omega arith);
  sram = subst (AllByRecursion (λ x. x < 256)) (sym (by_index u.sram 4096 s.sram.length_is)) (number_is (λ x. x < 256) u.sram (λ i. let b = s.sram.bytes i in omega arith));
}

module _ (sc : ScenarioOf) (c : ℕ) (ok : IsScenario sc) (images : AreImages sc) (cut : is_cut sc.topo c ≡ true) where
  early : c < sc.topo.limit
  early = ltb-true c sc.topo.limit (and_parts _ _ (and_parts _ _ cut).1).1

  node : (k : ℕ) → HasNode (rules_of sc) c (parts_of (node_at (fleet_of sc) k c))
  node k =
      let u = node_at (fleet_of sc) k c in
      let s = saved sc k c ok images (let e = early in omega arith) in
      has_node sc c (parts_of u) (fit sc k c u s) (bytes sc k c u s)

  sent : AllByRecursion (λ x. x.byte < 256) (kept_at sc c)
  sent =
      let e = early in
      let same : c - 0 ≡ c = omega arith in
      let all : All (λ x. x.byte ≤ 255) (world_at (fleet_of sc) c).sends = subst (λ n. All (λ x. x.byte ≤ 255) (world_after (fleet_of sc) n).sends) (sym same) (world_in sc ok images c (omega arith)).sends in
      let small : All (λ x. x.byte < 256) (world_at (fleet_of sc) c).sends = (λ i d lt. let b = all i d lt in omega arith) in
      each_is (λ (x : Send). x.byte < 256) (kept_at sc c) (All-filter (is_kept sc.topo c) (λ x. x.byte < 256) (world_at (fleet_of sc) c).sends small)

  pub accepted : IsState (rules_of sc) (saved_at sc c)
  accepted = record {
    cycle = cut;
    count = length-map-range_with_len (λ k. parts_of (node_at (fleet_of sc) k c)) 0 sc.topo.nodes;
    nodes = mapped (HasNode (rules_of sc) c) (λ k. parts_of (node_at (fleet_of sc) k c)) 0 sc.topo.nodes (λ k lt. node k);
    sends = sends_are (fleet_of sc) (sound sc ok) refl c (omega arith);
    send_bytes = sent;
  }
