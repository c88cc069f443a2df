-- What words and record show is a consistent state.
use Rattle.std.proofs.Common.{◌≡◌, ℕ, zero, suc, ◌≤◌, List, [], replicate, sym, subst, ◌∙◌, arith}
use Rattle.std.specs.Prelude.{slice_index}
use Rattle.std.proofs.lemmas.List.{get_or_past, length-replicate}
use native.Mathlib.Decide.{dec_le}
use Rattle.atomic_table.specs.Table.{State}
use Rattle.atomic_table.specs.Seated.{TableId}
use Rattle.world_core.specs.declared.world.WorldFacts.{WorldFacts}
use Rattle.world_core.specs.Lawful.{IsLawful}
use Rattle.world_core.specs.Sends.{sends_below}
use Rattle.world_core.specs.Posted.{sent_of}
use Rattle.world_core.specs.Consistent.{IsConsistent}
use Rattle.world_core.proofs.Counts.{sends_below-le}
use Rattle.world_core.proofs.Records.{record_opens}
use Rattle.world_core.proofs.Steps.{none_below}
use Rattle.neighbour_sync.specs.declared.rule.View.{View}
use Rattle.neighbour_sync.specs.Layout.{word_count, clock_at, sent_at}
use Rattle.neighbour_sync.specs.Record.{AirRecord, IsSound, first_record}
use Rattle.neighbour_sync.specs.Shows.{shown, AreShown, first_words}
use Rattle.neighbour_sync.proofs.Laying.{opens}
use Rattle.neighbour_sync.proofs.Words.{zeros}

module _ (s : State (Unit {0}) View) (r : AirRecord) (clocks : List ℕ) (a : AreShown s r clocks) where
  within_case : (k : ℕ) → Dec (r.world.topo.nodes ≤ k) → slice_index clocks k ≤ r.world.topo.limit
  within_case k (yes h) = let e : slice_index clocks k ≡ 0 = get_or_past clocks k 0 (subst (λ (n : ℕ). n ≤ k) (sym a.nodes) h) in omega arith
  within_case k (no h) = let e = a.clocks_are k (omega arith) in let b = a.rule.within k (omega arith) in subst (λ (n : ℕ). n ≤ r.world.topo.limit) (sym e) b

  passed_case : (k : ℕ) → Dec (r.world.topo.nodes ≤ k) → sends_below r.world.sends k (slice_index clocks k) ≤ sent_of r.sent k
  passed_case k (yes h) = let e = none_below r.world k (slice_index clocks k) a.sound.lawful h in omega arith
  passed_case k (no h) =
      let count = a.counts_are k (omega arith) in
      let word = a.rule.counts k (omega arith) in
      let passed = subst (λ (n : ℕ). sends_below r.world.sends k n ≤ sent_of a.rule.air.sent k) (sym (a.clocks_are k (omega arith))) (a.rule.passed k (omega arith)) in
      omega arith

  pub consistent : IsConsistent (shown r clocks)
  consistent = record {
    lawful = a.sound.lawful;
    nodes = a.nodes;
    within = λ k. within_case k (dec_le r.world.topo.nodes k);
    passed = λ k. passed_case k (dec_le r.world.topo.nodes k);
    recorded = a.sound.recorded;
  }

-- the words as they are laid, beside the empty record
pub at_first : (w : WorldFacts) (z : TableId) → IsLawful w → AreShown (first_words w) (first_record z w []) (replicate w.topo.nodes 0)
at_first w z law =
    let n = w.topo.nodes in
    let all = zeros (word_count n) in
    let none = zeros n in
    record {
      rule = opens w;
      sound = record { lawful = law; recorded = record_opens w; early = λ i d lt. absurd (omega arith); within = omega arith };
      nodes = length-replicate n 0;
      clocks_are = λ k kt. none k ∙ sym (all (clock_at k));
      counts_are = λ k kt. none k ∙ sym (all (sent_at n k));
      risen = λ i d lt. absurd (omega arith);
    }

-- ---- where all clocks stand at the floor
level : (n c k : ℕ) → slice_index (replicate n c) k ≤ c
level zero c k = omega arith
level (suc n) c zero = omega arith
level (suc n) c (suc k) = level n c k

pub at_floor : (r : AirRecord) → IsSound r → IsConsistent (shown r (replicate r.world.topo.nodes r.floor))
at_floor r i =
    let n = r.world.topo.nodes in
    record {
      lawful = i.lawful;
      nodes = length-replicate n r.floor;
      within = λ k. let a = level n r.floor k in let b = i.within in omega arith;
      passed = λ k. let a = sends_below-le r.world.sends k (slice_index (replicate n r.floor) k) r.floor (level n r.floor k) in let b = i.recorded.below k in omega arith;
      recorded = i.recorded;
    }
