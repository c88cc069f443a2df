-- A post and a sample keep the record.
use Rattle.std.proofs.Common.{◌≡◌, ℕ, zero, suc, ◌+◌, ◌<◌, List, [], ◌∷◌, ◌++◌, length, get_or, set, take, replicate, refl, sym, subst, ◌∙◌, ap, arith, ◌≤◌, ◌==◌, Bool, true, false, length-set, length-append}
use Rattle.std.specs.List.{All, Contains, filter}
use Rattle.std.specs.Prelude.{nat_le, nat_lt}
use Rattle.std.proofs.lemmas.List.Elements.{All-push, All-filter, filter_passes}
use Rattle.std.proofs.lemmas.Bool.Decides.{nat_tests}
use Rattle.std.proofs.lemmas.List.{length-replicate, length-take-le, get_or-take, get_or_default}
use Rattle.std.proofs.Math.Nat.{div-le_self}
use Rattle.air_base.specs.declared.air.Send.{Send}
use Rattle.air_base.specs.declared.air.Ask.{Ask}
use Rattle.air_base.specs.declared.air.Heard.{Heard}
use Rattle.world_core.specs.declared.world.WorldFacts.{WorldFacts}
use Rattle.world_core.specs.Heard.{heard}
use Rattle.world_core.specs.Topology.{IsInside, reach}
use Rattle.world_core.specs.Sends.{sends_of, IsSendNumber}
use Rattle.world_core.specs.Posted.{sent_of, AllPostedFor}
use Rattle.world_core.specs.Kept.{is_kept, IsPostedTo}
use Rattle.world_core.specs.Settled.{truth, room_of, IsFinal, IsRecorded}
use Rattle.world_core.specs.Lawful.{IsLawful}
use Rattle.world_core.proofs.Final.{heard_kept, filter_swap, through}
use Rattle.world_core.proofs.Steps.{final_from, final_more, sent_le, counts_more, posted_more}
use Rattle.world_core.proofs.Counts.{send_inside, none_at_zero}
use Rattle.world_core.proofs.Room.{room, few}

-- the record gives a reached sample what the world gives it
pub record_right : (w : WorldFacts) (floor : ℕ) (sent : List ℕ) (sends : List Send) (samples : List (Ask × Heard)) (j s : ℕ) → IsLawful w → IsRecorded w floor sent sends samples → floor ≤ s → AllPostedFor w sent j s → heard w.topo sends j s ≡ truth w j s
record_right w floor sent sends samples j s law i late reached = heard_kept w floor sent sends j s law i.posted late reached

pub record_sampled : (w : WorldFacts) (floor : ℕ) (sent : List ℕ) (sends : List Send) (samples : List (Ask × Heard)) (j s : ℕ) (h : Heard) → IsLawful w → IsRecorded w floor sent sends samples
    → Contains w.asks record { node = j; cycle = s } → floor ≤ s → AllPostedFor w sent j s → h ≡ heard w.topo sends j s → IsRecorded w floor sent sends (samples ++ (record { node = j; cycle = s }, h) ∷ [])
record_sampled w floor sent sends samples j s h law i asked late reached e = record {
  nodes = i.nodes;
  counts = i.counts;
  below = i.below;
  posted = i.posted;
  inside = i.inside;
  late = All-push (λ y. floor ≤ y.0.cycle) samples (record { node = j; cycle = s }, h) i.late late;
  final = All-push (IsFinal w sent) samples (record { node = j; cycle = s }, h) i.final
      (final_from w sent record { node = j; cycle = s } h law asked (e ∙ record_right w floor sent sends samples j s law i late reached) reached);
}

-- a further send is one of the topology's nodes
pub in_nodes : (w : WorldFacts) (n : ℕ) (x : Send) → IsLawful w → IsSendNumber w n x → x.node < w.topo.nodes
in_nodes w n x law may = (send_inside w n x law may).0

pub record_posted : (w : WorldFacts) (floor : ℕ) (sent : List ℕ) (sends : List Send) (samples : List (Ask × Heard)) (x : Send) → IsLawful w → IsRecorded w floor sent sends samples → IsSendNumber w (sent_of sent x.node) x
    → IsRecorded w floor (set sent x.node (sent_of sent x.node + 1)) (sends ++ x ∷ []) samples
record_posted w floor sent sends samples x law i may =
    let n = sent_of sent x.node in
    let h : x.node < length sent = let a = in_nodes w n x law may in let e = i.nodes in omega arith in
    let le = λ (k : ℕ). sent_le sent x.node (n + 1) k h (omega arith) in
    record {
      nodes = length-set sent x.node (n + 1) ∙ i.nodes;
      counts = λ k. counts_more w sent x k h i.counts may;
      below = λ k. let b = i.below k in let m = le k in omega arith;
      posted = posted_more w floor sent sends x law h i.below i.posted may;
      inside = All-push (λ y. IsInside w.topo y.node y.cycle) sends x i.inside (send_inside w n x law may);
      late = i.late;
      final = λ k d lt. final_more w sent (set sent x.node (n + 1)) (get_or samples k d) law le (i.final k d lt);
    }

-- there is room for a further send
pub record_room : (w : WorldFacts) (floor : ℕ) (sent : List ℕ) (sends : List Send) (samples : List (Ask × Heard)) (x : Send) → IsLawful w → IsRecorded w floor sent sends samples → IsSendNumber w (sent_of sent x.node) x → length sends < room_of w.topo
record_room w floor sent sends samples x law i may =
    let p = record_posted w floor sent sends samples x law i may in
    let r = room w floor (set sent x.node (sent_of sent x.node + 1)) (sends ++ x ∷ []) law p.posted p.inside in
    omega (arith, length-append sends (x ∷ []))

-- it lies above the recorded sends of its node
after_at : (w : WorldFacts) (n : ℕ) (x : Send) → IsLawful w → IsSendNumber w n x → All (λ y. y.cycle < x.cycle) (take n (sends_of x.node w.sends))
after_at w n x law may i d lt =
    let l = sends_of x.node w.sends in
    let few = length-take-le n l (let h = may.0 in omega arith) in
    let h = law.sends_apart x.node i n d (omega arith) may.0 in
    let e = ap (λ (y : Send). y.cycle) (get_or_default l n d x may.0 ∙ may.1) in
    let g = ap (λ (y : Send). y.cycle) (get_or-take n l i d (omega arith)) in
    let pos = law.topo.ranges.byte_from in
    omega arith

pub record_after : (w : WorldFacts) (floor : ℕ) (sent : List ℕ) (sends : List Send) (samples : List (Ask × Heard)) (x : Send) → IsLawful w → IsRecorded w floor sent sends samples → IsSendNumber w (sent_of sent x.node) x
    → All (λ y. y.cycle < x.cycle) (sends_of x.node sends)
record_after w floor sent sends samples x law i may =
    subst (All (λ y. y.cycle < x.cycle)) (sym (i.posted x.node)) (All-filter (is_kept w.topo floor) (λ y. y.cycle < x.cycle) (take (sent_of sent x.node) (sends_of x.node w.sends)) (after_at w (sent_of sent x.node) x law may))

-- a node's sends are few
pub few_sends : (w : WorldFacts) (k : ℕ) → IsLawful w → length (sends_of k w.sends) < 18446744073709551616
few_sends w k law = let a = few w k law in let b = div-le_self w.topo.limit w.topo.byte_time in let c = law.topo.ranges.limit_to in omega arith

zeros : (n i : ℕ) → sent_of (replicate n 0) i ≡ 0
zeros zero i = refl
zeros (suc n) zero = refl
zeros (suc n) (suc i) = zeros n i

not_under : (f c : ℕ) → nat_le f c ≡ true → f ≤ c
not_under f c e = grind (arith, nat_tests)

late_from_test : (f : ℕ) (samples : List (Ask × Heard)) → All (λ x. f ≤ x.0.cycle) (filter (λ x. nat_le f x.0.cycle) samples)
late_from_test f samples i d lt =
    let p : Ask × Heard → Bool = λ x. nat_le f x.0.cycle in
    not_under f (get_or (filter p samples) i d).0.cycle (filter_passes p samples i d lt)

kept_less : (floor f e : ℕ) → floor ≤ f → nat_lt floor e ≡ false → nat_lt f e ≡ false
kept_less floor f e h k = grind (arith, nat_tests)

-- the record, cut up to a cycle below which all is posted
pub record_cut : (w : WorldFacts) (floor f : ℕ) (sent : List ℕ) (sends : List Send) (samples : List (Ask × Heard)) → IsRecorded w floor sent sends samples → floor ≤ f → IsPostedTo w f sent
    → IsRecorded w f sent (filter (is_kept w.topo f) sends) (filter (λ x. nat_le f x.0.cycle) samples)
record_cut w floor f sent sends samples i rises below = record {
  nodes = i.nodes;
  counts = i.counts;
  below = below;
  posted = λ k.
      filter_swap (λ (x : Send). x.node == k) (is_kept w.topo f) sends ∙ ap (filter (is_kept w.topo f)) (i.posted k)
      ∙ through (is_kept w.topo f) (is_kept w.topo floor) (λ x e. kept_less floor f (x.cycle + reach w.topo + w.topo.byte_time) rises e) (take (sent_of sent k) (sends_of k w.sends));
  inside = All-filter (is_kept w.topo f) (λ y. IsInside w.topo y.node y.cycle) sends i.inside;
  late = late_from_test f samples;
  final = All-filter (λ (x : Ask × Heard). nat_le f x.0.cycle) (IsFinal w sent) samples i.final;
}

-- the empty record
pub record_opens : (w : WorldFacts) → IsRecorded w 0 (replicate w.topo.nodes 0) [] []
record_opens w = record {
  nodes = length-replicate w.topo.nodes 0;
  counts = λ k. let z = zeros w.topo.nodes k in omega arith;
  below = λ k. let z = none_at_zero w k in omega arith;
  posted = λ k. ap (λ (n : ℕ). filter (is_kept w.topo 0) (take n (sends_of k w.sends))) (sym (zeros w.topo.nodes k));
  inside = λ k d lt. absurd (omega arith);
  late = λ k d lt. absurd (omega arith);
  final = λ k d lt. absurd (omega arith);
}
