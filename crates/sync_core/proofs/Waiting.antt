-- Where no node is behind, all have passed.
use Rattle.std.proofs.Common.{◌≡◌, inl, ℕ, ◌-◌, ◌<◌, ◌≤◌, Bool, true, false, ◌&&◌, List, refl, ◌∙◌, arith}
use Rattle.std.proofs.lemmas.Bool.{false≢true}
use native.Mathlib.Decide.{dec_le}
use Rattle.world_core.specs.Topology.{Topology, IsTopology, is_linked, is_needed, is_reached_in, place_in, latency_of}
use Rattle.world_core.specs.Consistent.{AirState, clock_of}
use Rattle.world_core.specs.Steps.{AllPassed}
use Rattle.world_core.proofs.Links.{not_linked}
use Rattle.sync_core.specs.Sampling.{IsBehind, NoneBehind}

pub first_true : (u v : Bool) → (u && v) ≡ true → u ≡ true
first_true true v e = refl
first_true false v e = e

none_case : (t : Topology) (clocks : List ℕ) (j s k : ℕ) → IsTopology t → ((m : ℕ) → m < t.nodes → ¬ IsBehind t clocks j s m) → IsBehind t clocks j s k → Dec (t.nodes ≤ k) → ⊥
none_case t clocks j s k law h b (yes d) = false≢true (not_linked t k j law (inl d) ∙ first_true (is_linked t k j) (is_reached_in t.spans (place_in t.links k j) (latency_of t k j) t.byte_time s) b.0)
none_case t clocks j s k law h b (no d) = h k (omega arith) b

-- it is enough to look at the nodes of the topology
pub none_behind : (t : Topology) (clocks : List ℕ) (j s : ℕ) → IsTopology t → ((m : ℕ) → m < t.nodes → ¬ IsBehind t clocks j s m) → NoneBehind t clocks j s
none_behind t clocks j s law h k b = none_case t clocks j s k law h b (dec_le t.nodes k)

passed_case : (a : AirState) (j s k : ℕ) → NoneBehind a.world.topo a.clocks j s → is_needed a.world.topo k j s ≡ true → Dec (clock_of a.clocks k ≤ s - latency_of a.world.topo k j) → s - latency_of a.world.topo k j < clock_of a.clocks k
passed_case a j s k h n (yes d) = absurd (h k (n, d))
passed_case a j s k h n (no d) = omega arith

pub all_passed : (a : AirState) (j s : ℕ) → NoneBehind a.world.topo a.clocks j s → AllPassed a j s
all_passed a j s h k n = passed_case a j s k h n (dec_le (clock_of a.clocks k) (s - latency_of a.world.topo k j))
