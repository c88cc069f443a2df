use Rattle.std.proofs.Common.{◌≡◌, ℕ, List, [], length, replicate, sym, ◌∙◌, ap, subst, arith, rules}
use Rattle.std.proofs.lemmas.List.{length-replicate}
use Rattle.std.proofs.lemmas.Result.{IfOk-weaker}
use Rattle.world_core.specs.declared.world.WorldFacts.{WorldFacts}
use Rattle.atomic_table.specs.Table.{opening}
use Rattle.neighbour_sync.specs.Layout.{word_count}
use Rattle.neighbour_sync.specs.Rule.{KeepsRule, air_view}
use Rattle.neighbour_sync.proofs.Laying.{opens}
use Rattle.neighbour_sync.proofs.open.lay.Goals as goal

pub of_words-requires : goal.of_words-requires
of_words-requires g c =
    let w = g.W.World.facts c.of-about.result.value in
    let same : w ≡ g.W.World.facts c.args.world.now = ap g.W.World.facts c.of-about.ensures in
    let n : word_count w.topo.nodes ≡ c.count_words.result = let a = ap (λ (x : WorldFacts). x.topo.nodes) same in omega (arith, c.requires, c.count_words.ensures) in
    let items : c.as_slice.result.now ≡ replicate (word_count w.topo.nodes) 0 = c.as_slice.ensures.value ∙ search rules ∙ ap (λ (m : ℕ). replicate m 0) (sym n) in
    subst (λ (l : List ℕ). KeepsRule w (opening l [] (air_view w 0))) (sym items) (opens w)

pub returns : goal.returns
returns g c =
    let same : g.W.World.facts c.of-about.result.value ≡ g.W.World.facts c.args.world.now = ap g.W.World.facts c.of-about.ensures in
    let items : c.as_slice.result.now ≡ replicate c.count_words.result 0 = c.as_slice.ensures.value ∙ search rules in
    let count : length c.as_slice.result.now ≡ word_count c.args.nodes = ap length items ∙ length-replicate c.count_words.result 0 ∙ c.count_words.ensures in
    IfOk-weaker c.of_words.result _ _
    (λ t h. (
      record { nodes_is = c.requires; words_is = h.0 ∙ count },
      ap (λ k. k.value) h.5 ∙ c.of-about.ensures,
      h.2,
      h.4 ∙ ap (λ (w : WorldFacts). (air_view w 0, [])) same,
    ))
    c.of_words.ensures
