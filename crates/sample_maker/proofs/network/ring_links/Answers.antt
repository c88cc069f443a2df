use Rattle.std.proofs.Common.{◌≡◌, ◌∷◌, ◌++◌, [], List, sym, ap, ◌∙◌, rules, arith}
use Rattle.std.proofs.lemmas.List.FromFn.{map-range_with_len_more}
use Rattle.world_core.specs.declared.link_table.Link.{Link}
use Rattle.sample_maker.specs.Network.{link_from}
use Rattle.sample_maker.proofs.network.ring_links.Goals as goal

pub loop-k-preserved : goal.loop-k-preserved
loop-k-preserved c =
    let link = link_from c.args.nodes in
    let k = c.loop-k.k in
    let pushed : c.push.new.self.items ≡ c.loop-k.links.items ++ link k ∷ [] = search rules in
    pushed ∙ (ap (λ (l : List Link). l ++ link k ∷ []) c.loop-k.invariant ∙ sym (map-range_with_len_more link 0 k k (omega arith)))

pub loop-k-init : goal.loop-k-init
loop-k-init c = c.new-links.ensures.items
