use Rattle.std.proofs.Common.{map, ◌≡◌, ◌∷◌, ◌++◌, [], List, sym, ap, ◌∙◌, rules, arith}
use Rattle.std.specs.List.{range_with_len}
use Rattle.std.proofs.lemmas.List.FromFn.{map-range_with_len_more}
use Rattle.ihex_loader.specs.Flash.{Image}
use Rattle.sample_maker.specs.Sample.{image_of_node}
use Rattle.sample_maker.proofs.sample.images.Goals as goal

pub loop-k-preserved : goal.loop-k-preserved
loop-k-preserved c =
    let image = image_of_node c.args.number in
    let k = c.loop-k.k in
    let pushed : c.push.new.self.items ≡ c.loop-k.images.items ++ image k ∷ [] = search rules in
    pushed ∙ (ap (λ (l : List Image). l ++ image k ∷ []) c.loop-k.invariant ∙ sym (map-range_with_len_more image 0 k k (omega arith)))

pub loop-k-init : goal.loop-k-init
loop-k-init c = c.new-images.ensures.items

pub returns : goal.returns
returns c =
    let n : c.loop-k.k ≡ c.args.nodes = omega arith in
    c.loop-k.invariant ∙ ap (λ k. map (image_of_node c.args.number) (range_with_len 0 k)) n
