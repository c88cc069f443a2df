-- A state that agrees at each node of the topology and at each sample is consistent.
use Rattle.std.proofs.Common.{◌≡◌, ℕ, zero, suc, ◌<◌, ◌≤◌, ◌==◌, List, length, take, get_or, sym, ◌∙◌, ap, arith}
use Rattle.std.specs.List.{All, filter}
use Rattle.std.proofs.lemmas.List.Elements.{All-append, All-take, All-filter}
use Rattle.std.proofs.lemmas.List.{get_or_past}
use native.Mathlib.Decide.{dec_le}
use Rattle.air_base.specs.declared.air.Send.{Send}
use Rattle.air_base.specs.declared.air.Ask.{Ask}
use Rattle.air_base.specs.declared.air.Heard.{Heard}
use Rattle.world_core.specs.declared.world.WorldFacts.{WorldFacts}
use Rattle.air_base.specs.Each.{each_below}
use Rattle.world_core.specs.Topology.{IsInside}
use Rattle.world_core.specs.Lawful.{IsLawful}
use Rattle.world_core.specs.Sends.{sends_of}
use Rattle.world_core.specs.Posted.{sent_of, posted}
use Rattle.world_core.specs.Kept.{is_kept}
use Rattle.world_core.specs.Settled.{IsFinal}
use Rattle.world_core.specs.Consistent.{AirState, IsConsistent, clock_of}
use Rattle.air_facts.specs.ByNode.{NodeAgrees, SampleAgrees}
use Rattle.world_core.proofs.Counts.{none_past}
use Rattle.world_core.proofs.Steps.{none_below, reached_in}

posted_in : (w : WorldFacts) (sent : List ℕ) (n : ℕ) → IsLawful w → All (λ x. IsInside w.topo x.node x.cycle) (each_below n (λ k. take (sent_of sent k) (sends_of k w.sends)))
posted_in w sent zero law = λ i d lt. absurd (omega arith)
posted_in w sent (suc n) law =
    let P : Send → Type 0 = λ x. IsInside w.topo x.node x.cycle in
    All-append P (each_below n (λ k. take (sent_of sent k) (sends_of k w.sends))) (take (sent_of sent n) (sends_of n w.sends)) (posted_in w sent n law)
    (All-take P (sent_of sent n) (sends_of n w.sends) (All-filter (λ (x : Send). x.node == n) P w.sends law.sends_in))

pub posted_inside : (w : WorldFacts) (sent : List ℕ) → IsLawful w → All (λ x. IsInside w.topo x.node x.cycle) (posted w sent)
posted_inside w sent law = posted_in w sent w.topo.nodes law

-- past the topology nothing is sent, posted or recorded
past_agrees : (w : WorldFacts) (floor : ℕ) (clocks sent : List ℕ) (sends : List Send) (k : ℕ) → IsLawful w → length clocks ≡ w.topo.nodes → length sent ≡ w.topo.nodes → All (λ x. IsInside w.topo x.node x.cycle) sends
    → w.topo.nodes ≤ k → NodeAgrees w floor clocks sent sends k
past_agrees w floor clocks sent sends k law nc ns inside le =
    let c = get_or_past clocks k 0 (omega arith) in
    let s = get_or_past sent k 0 (omega arith) in
    let b = none_below w k (clock_of clocks k) law le in
    let g = none_below w k floor law le in
    record {
      within = omega arith;
      passed = omega arith;
      counts = omega arith;
      below = omega arith;
      posted = none_past w.topo.nodes w.topo.limit k sends le inside ∙ ap (λ (n : ℕ). filter (is_kept w.topo floor) (take n (sends_of k w.sends))) (sym s);
    }

agrees_case : (w : WorldFacts) (floor : ℕ) (clocks sent : List ℕ) (sends : List Send) (k : ℕ) → Dec (w.topo.nodes ≤ k) → IsLawful w → length clocks ≡ w.topo.nodes → length sent ≡ w.topo.nodes → All (λ x. IsInside w.topo x.node x.cycle) sends
    → (k < w.topo.nodes → NodeAgrees w floor clocks sent sends k) → NodeAgrees w floor clocks sent sends k
agrees_case w floor clocks sent sends k (yes le) law nc ns inside here = past_agrees w floor clocks sent sends k law nc ns inside le
agrees_case w floor clocks sent sends k (no d) law nc ns inside here = here (omega arith)

sample_final : (w : WorldFacts) (floor : ℕ) (sent : List ℕ) (x : Ask × Heard) → IsLawful w → SampleAgrees w floor sent x → IsFinal w sent x
sample_final w floor sent x law a = record {
  asked = a.asked;
  right = a.right;
  settled = record { value = a.value; reached = reached_in w sent x.0.node x.0.cycle law a.reached };
}

pub consistent_from : (a : AirState) → IsLawful a.world → length a.clocks ≡ a.world.topo.nodes → length a.sent ≡ a.world.topo.nodes → All (λ x. IsInside a.world.topo x.node x.cycle) a.sends
    → ((k : ℕ) → k < a.world.topo.nodes → NodeAgrees a.world a.floor a.clocks a.sent a.sends k) → All (SampleAgrees a.world a.floor a.sent) a.samples → IsConsistent a
consistent_from a law nc ns inside nodes samples =
    let all : (k : ℕ) → NodeAgrees a.world a.floor a.clocks a.sent a.sends k = λ k. agrees_case a.world a.floor a.clocks a.sent a.sends k (dec_le a.world.topo.nodes k) law nc ns inside (nodes k) in
    record {
      lawful = law;
      nodes = nc;
      within = λ k. (all k).within;
      passed = λ k. (all k).passed;
      recorded = record {
        nodes = ns;
        counts = λ k. (all k).counts;
        below = λ k. (all k).below;
        posted = λ k. (all k).posted;
        inside = inside;
        late = λ i d lt. (samples i d lt).kept;
        final = λ i d lt. sample_final a.world a.floor a.sent (get_or a.samples i d) law (samples i d lt);
      };
    }
