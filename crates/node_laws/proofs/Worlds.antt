-- Each node of the global order is within its bounds at the beginning of each cycle.
use Rattle.std.proofs.Common.{◌≡◌, ℕ, zero, suc, ◌+◌, ◌-◌, ◌^◌, ◌<◌, ◌≤◌, List, [], ◌∷◌, length, refl, sym, subst, ◌∙◌, arith, Option, Some, None, filter, inl, inr}
use Rattle.std.specs.List.{All}
use Rattle.std.proofs.lemmas.List.Elements.{All-append, All-cons, All-filter, All-head, All-nil, All-tail}
use Rattle.std.proofs.lemmas.Nat.{or_lt}
use Rattle.std.proofs.lemmas.Bool.{cases_lt}
use Rattle.std.proofs.Math.ListN.{get_or-eq_default}
use Rattle.ihex_loader.specs.Flash.{Image}
use Rattle.node_core.specs.Cycle.{node_kind}
use Rattle.node_core.specs.State.{NodeState}
use Rattle.node_core.specs.declared.row.Row.{Row}
use Rattle.node_runner.specs.Scenario.{IsScenario, ScenarioOf, fleet_of, image_at, script_at}
use Rattle.air_base.specs.Each.{each_below}
use Rattle.world_core.specs.Heard.{age_of, heard, heard_from, is_audible, or_of}
use Rattle.world_core.specs.Order.{Fleet, Moment, hears, node_at, send_of, stepped, world_after}
use Rattle.world_core.specs.Topology.{Topology}
use Rattle.air_base.specs.declared.air.Heard.{Heard}
use Rattle.air_base.specs.declared.air.Send.{Send}
use Rattle.air_base.proofs.Each.{All_each}
use Rattle.node_laws.specs.Within.{ByteWithin, HeardWithin}
use Rattle.node_laws.specs.Node.{AreBytes, NodeWithin}
use Rattle.node_laws.proofs.Images.{AreImages}
use Rattle.node_laws.proofs.Nodes.{node_reset_within, node_sends_within, ticked_within}
use Rattle.node_laws.proofs.Fixed.{fixed, fixed_ticked}

-- what is heard

abbrev IsByteSend : Send → Type 0
IsByteSend x = x.byte ≤ 255

or_in : (xs : List Send) → All IsByteSend xs → or_of xs < 2 ^ 8
or_in [] h = omega arith
or_in (x ∷ xs) h =
    let one : x.byte ≤ 255 = All-head IsByteSend x xs h in
    or_lt 8 x.byte (or_of xs) (omega (arith, one)) (or_in xs (All-tail IsByteSend x xs h))

from_in : (age : Send → ℕ) (xs : List Send) → All IsByteSend xs → HeardWithin (heard_from age xs)
from_in age [] h = omega arith
from_in age (x ∷ []) h = omega (arith, All-head IsByteSend x [] h)
from_in age (x ∷ y ∷ xs) h = omega (arith, or_in (x ∷ y ∷ xs) h)

heard_in : (t : Topology) (sends : List Send) (j s : ℕ) → All IsByteSend sends → HeardWithin (heard t sends j s)
unfolding heard
heard_in t sends j s h = from_in (age_of t j s) (filter (is_audible t j s) sends) (All-filter (is_audible t j s) IsByteSend sends h)

sent_in : (t k : ℕ) (o : Option ℕ) → ByteWithin o → All IsByteSend (send_of t k o)
sent_in t k None small = All-nil IsByteSend
sent_in t k (Some b) small = All-cons IsByteSend (record { node = k; cycle = t; byte = b }) [] small (All-nil IsByteSend)

-- the world

pub record WorldWithin (sc : ScenarioOf) (t : ℕ) (w : Moment NodeState Row) : Type 0 where
  pub nodes : (k : ℕ) → NodeWithin t (w.state k)
  pub fixed_is : (k : ℕ) → fixed (w.state k) ≡ fixed ((fleet_of sc).begins k)
  pub sends : All IsByteSend w.sends

image_bytes : (sc : ScenarioOf) → AreImages sc → (k : ℕ) → AreBytes (image_at sc k).bytes
image_bytes sc images k =
    elim (cases_lt k (length sc.images)) [
      | inl low ↦ images k _ low
      | inr high ↦ subst (λ (i : Image). AreBytes i.bytes) (sym (get_or-eq_default sc.images (record { bytes = []; used = 0 }) {n = k} high)) (λ j. omega arith)
    ]

module _ (sc : ScenarioOf) (is : IsScenario sc) (images : AreImages sc) where
  step_in : (t : ℕ) (w : Moment NodeState Row) → t < 2 ^ 40 → WorldWithin sc t w → WorldWithin sc (t + 1) (stepped (fleet_of sc) t w)
  step_in t w early h =
      let f : Fleet NodeState Row = fleet_of sc in
      let x : ℕ → Heard = λ k. hears f t w k in
      let heard_is : (k : ℕ) → HeardWithin (x k) = λ k. heard_in sc.topo w.sends k t h.sends in
      let sends : (k : ℕ) → All IsByteSend (send_of t k (node_kind.sends t (w.state k))) =
      λ k. sent_in t k (node_kind.sends t (w.state k)) (node_sends_within t (w.state k) (h.nodes k) early) in
      record {
        nodes = λ k. ticked_within t (w.state k) (h.nodes k) (x k) early (heard_is k);
        fixed_is = λ k. fixed_ticked t (w.state k) (x k) ∙ h.fixed_is k;
        sends =
            All-append IsByteSend w.sends (each_below sc.topo.nodes (λ k. send_of t k (node_kind.sends t (w.state k)))) h.sends
            (All_each IsByteSend sc.topo.nodes (λ k. send_of t k (node_kind.sends t (w.state k))) (λ k low. sends k));
      }

  pub world_in : (n : ℕ) → n ≤ sc.topo.limit → WorldWithin sc n (world_after (fleet_of sc) n)
  unfolding world_after
  world_in zero late = record {
    nodes = λ k. node_reset_within k (image_at sc k).bytes (script_at sc k) sc.from sc.to sc.topo.byte_time (image_bytes sc images k) is.topo.ranges.byte_to;
    fixed_is = λ k. refl;
    sends = All-nil IsByteSend;
  }
  world_in (suc n) late =
      let w : Moment NodeState Row = world_after (fleet_of sc) n in
      let h : WorldWithin sc n w = world_in n (omega (arith, late)) in
      let early : n < 2 ^ 40 = omega (arith, late, is.topo.ranges.limit_to) in
      let same : n + 1 ≡ suc n = omega arith in
      let there : 0 + n ≡ n = omega arith in
      let stepped_is : WorldWithin sc (n + 1) (stepped (fleet_of sc) n w) = step_in n w early h in
      subst (λ m. WorldWithin sc m (stepped (fleet_of sc) (0 + n) w)) same (subst (λ m. WorldWithin sc (n + 1) (stepped (fleet_of sc) m w)) (sym there) stepped_is)

  -- a run begins in cycle 0
  pub node_in : (k c : ℕ) → c ≤ sc.topo.limit → NodeWithin c (node_at (fleet_of sc) k c)
  node_in k c late =
      let same : c - 0 ≡ c = omega arith in
      subst (λ n. NodeWithin c ((world_after (fleet_of sc) n).state k)) (sym same) ((world_in c late).nodes k)

  pub node_fixed : (k c : ℕ) → c ≤ sc.topo.limit → fixed (node_at (fleet_of sc) k c) ≡ fixed ((fleet_of sc).begins k)
  node_fixed k c late =
      let same : c - 0 ≡ c = omega arith in
      subst (λ n. fixed ((world_after (fleet_of sc) n).state k) ≡ fixed ((fleet_of sc).begins k)) (sym same) ((world_in c late).fixed_is k)
