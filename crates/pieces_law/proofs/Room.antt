-- How many sends are saved of a run.
use Rattle.std.proofs.Common.{◌≡◌, ℕ, zero, suc, ◌+◌, ◌*◌, ◌/◌, ◌<◌, ◌≤◌, ◌==◌, List, [], length, map, take, refl, sym, ap, ◌∙◌, inl, inr, arith, suc-mul}
use Rattle.std.specs.List.{All, filter, range_with_len}
use Rattle.std.proofs.Math.Nat.{le-div_iff_mul-le}
use Rattle.std.proofs.lemmas.Bool.{cases_lt}
use Rattle.std.proofs.lemmas.List.Elements.{All-filter, All-weaker}
use Rattle.std.proofs.lemmas.List.FromFn.{get_or-map-range_with_len}
use Rattle.air_base.specs.declared.air.Send.{Send}
use Rattle.world_core.specs.declared.world.WorldFacts.{WorldFacts}
use Rattle.world_core.specs.Kept.{is_kept}
use Rattle.world_core.specs.Order.{facts_of, world_at}
use Rattle.world_core.specs.Posted.{sent_of}
use Rattle.world_core.specs.Sends.{sends_below, sends_of}
use Rattle.world_core.specs.Topology.{IsInside, IsTopology, Topology, reach}
use Rattle.world_core.proofs.Counts.{no_sends_past}
use Rattle.world_core.proofs.Final.{filter_swap}
use Rattle.world_core.proofs.Latencies.{greatest_in}
use Rattle.world_core.proofs.Room.{kept_room}
use Rattle.world_core.proofs.Sends.{all_inside, posted_front}
use Rattle.node_runner.specs.Run.{kept_at}
use Rattle.node_runner.specs.Scenario.{IsScenario, ScenarioOf, fleet_of}
use Rattle.node_runner.proofs.Sound.{scenario_lawful, sound}

take_nothing : (n : ℕ) → take {A = Send} n [] ≡ []
take_nothing zero = refl
take_nothing (suc n) = refl

-- ---- numbers
quotient : (reach gap : ℕ) → reach ≤ 65535 → 256 ≤ gap → (reach + gap + 0) / gap ≤ 256
quotient reach gap far long =
    elim (cases_lt ((reach + gap + 0) / gap) 257) [
      | inl low ↦ omega arith
      | inr high ↦ let product = (le-div_iff_mul-le {k = gap} {x = 257} {y = reach + gap + 0} (omega arith)).0 (omega arith) in absurd (omega (arith, product))
    ]

times : (n m : ℕ) → m ≤ 257 → n * m ≤ n * 257
times zero m few = omega arith
times (suc n) m few = let rest = times n m few in let a = suc-mul n m in omega (arith, rest, a)

room : (t : Topology) → IsTopology t → t.nodes * ((reach t + t.byte_time + 0) / t.byte_time + 1) ≤ 16448
room t is =
    let r = is.ranges in
    let far = (greatest_in t.own t.latency 1 65535 r.own_in r.latency_from r.latency_to).1 in
    let q = quotient (reach t) t.byte_time far r.byte_from in
    let product = times t.nodes ((reach t + t.byte_time + 0) / t.byte_time + 1) (omega (arith, q)) in
    let nodes = r.nodes_to in
    omega (arith, product, nodes)

module _ (sc : ScenarioOf) (ok : IsScenario sc) (c : ℕ) (lim : c ≤ sc.topo.limit) where
  abbrev world : WorldFacts
  world = facts_of (fleet_of sc)

  abbrev all : List Send
  all = (world_at (fleet_of sc) c).sends

  abbrev sent : List ℕ
  sent = map (λ k. sends_below world.sends k c) (range_with_len 0 sc.topo.nodes)

  first_sends : (k : ℕ) → take (sent_of sent k) (sends_of k world.sends) ≡ sends_of k all
  first_sends k =
      let front = posted_front (fleet_of sc) (sound sc ok) k c (omega arith) lim in
      elim (cases_lt k sc.topo.nodes) [
        | inl there ↦
            let count : sent_of sent k ≡ sends_below world.sends k c = get_or-map-range_with_len (λ j. sends_below world.sends j c) 0 sc.topo.nodes k k 0 there (omega arith) in
            ap (λ n. take n (sends_of k world.sends)) count ∙ front
        | inr past ↦
            let none : sends_of k world.sends ≡ [] = no_sends_past world k (scenario_lawful sc ok) past in
            let nothing : (n : ℕ) → take n (sends_of k world.sends) ≡ [] = λ n. ap (take n) none ∙ take_nothing n in
            nothing (sent_of sent k) ∙ sym (nothing (sends_below world.sends k c)) ∙ front
      ]

  posted : (k : ℕ) → sends_of k (kept_at sc c) ≡ filter (is_kept sc.topo c) (take (sent_of sent k) (sends_of k world.sends))
  posted k = filter_swap (λ (x : Send). x.node == k) (is_kept sc.topo c) all ∙ ap (filter (is_kept sc.topo c)) (sym (first_sends k))

  pub inside : All (λ x. (x.node < sc.topo.nodes) × (x.cycle < c)) (kept_at sc c)
  inside = All-filter (is_kept sc.topo c) (λ x. (x.node < sc.topo.nodes) × (x.cycle < c)) all (all_inside (fleet_of sc) (sound sc ok) c (omega arith))

  pub few_kept : length (kept_at sc c) ≤ 16448
  few_kept =
      let law = scenario_lawful sc ok in
      let within = All-weaker (λ x. (x.node < sc.topo.nodes) × (x.cycle < c)) (λ x. IsInside sc.topo x.node x.cycle) (λ x h. (h.0, omega (arith, h.1, lim))) (kept_at sc c) inside in
      let below = All-weaker (λ x. (x.node < sc.topo.nodes) × (x.cycle < c)) (λ x. x.cycle < c + 0) (λ x h. omega (arith, h.1)) (kept_at sc c) inside in
      let most : length (kept_at sc c) ≤ sc.topo.nodes * ((reach sc.topo + sc.topo.byte_time + 0) / sc.topo.byte_time + 1) = kept_room world c 0 sent (kept_at sc c) law posted within below in
      let bound = room sc.topo ok.topo in
      omega (arith, most, bound)
