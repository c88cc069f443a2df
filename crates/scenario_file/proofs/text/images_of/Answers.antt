use Rattle.std.proofs.Common.{map, take_all, ◌≡◌, ◌++◌, ◌∷◌, [], ap, sym, ◌∙◌, rules}
use Rattle.toml.specs.View.{view}
use Rattle.scenario_file.specs.Scenario.{image_of}
use Rattle.scenario_file.proofs.Lists.{map_more}
use Rattle.scenario_file.proofs.text.images_of.Goals as goal

pub loop-value-preserved : goal.loop-value-preserved
loop-value-preserved c =
    let pushed : c.push.new.self.items ≡ c.loop-value.images.items ++ c.in-Ok.name ∷ [] = search (rules, c.in_ok-push-in-Ok.ensures) in
    let item = c.in-Ok.ensures ∙ c.text_in.ensures ∙ ap (λ v. image_of (view v)) c.value-item.is in
    pushed ∙ (λ i. c.loop-value.invariant i ++ item i ∷ []) ∙ sym (map_more image_of view c.args.values.now c.loop-value.value-index c.value-item.result c.loop-value-test.true)

pub loop-value-init : goal.loop-value-init
loop-value-init c = c.new-images.ensures.items

pub returns : goal.returns
returns c = c.loop-value.invariant ∙ ap (λ t. map image_of (map view t)) (take_all c.loop-value.value-index c.args.values.now c.loop-value-test.false)
