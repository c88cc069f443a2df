-- The rule holds of the table at the start, all of whose words are 0.
use Rattle.std.proofs.Common.{ℕ, ◌≤◌, [], replicate, refl, sym, subst, ◌∙◌, arith}
use Rattle.std.proofs.lemmas.List.{length-replicate}
use mathlib.Core.Option.{some-ne-none}
use Rattle.atomic_table.specs.Table.{opening}
use Rattle.world_core.specs.declared.world.WorldFacts.{WorldFacts}
use Rattle.world_core.specs.Sends.{sends_below}
use Rattle.world_core.specs.Posted.{sent_of}
use Rattle.world_core.proofs.Counts.{none_at_zero}
use Rattle.neighbour_sync.specs.Layout.{word_count, clock_at, sent_at, halt_at}
use Rattle.neighbour_sync.specs.Rule.{KeepsRule, air_view}
use Rattle.neighbour_sync.proofs.Words.{zeros}

pub opens : (w : WorldFacts) → KeepsRule w (opening (replicate (word_count w.topo.nodes) 0) [] (air_view w 0))
opens w =
    let n = w.topo.nodes in
    let all = zeros (word_count n) in
    let none = zeros n in
    record {
      words = length-replicate (word_count n) 0;
      air = air_view w 0;
      first = refl;
      is_air = record { is_air = refl; world = refl; made = omega arith; sent = length-replicate n 0 };
      seats = refl;
      nodes = λ k v e. absurd (some-ne-none v (sym e));
      unmade = λ k m kt. all (clock_at k);
      counts = λ k kt. all (sent_at n k) ∙ sym (none k);
      enough = λ k kt. let a = none k in omega arith;
      within = λ k kt. let a = all (clock_at k) in omega arith;
      passed = λ k kt. subst (λ (c : ℕ). sends_below w.sends k c ≤ sent_of (replicate n 0) k) (sym (all (clock_at k))) (let a = none_at_zero w k in omega arith);
      halt = let a = all (halt_at n) in omega arith;
    }
