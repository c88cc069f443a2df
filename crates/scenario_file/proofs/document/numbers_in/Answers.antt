use Rattle.std.proofs.Common.{take_all, ◌≡◌, map, ◌++◌, ◌∷◌, [], ap, sym, ◌∙◌, rules}
use Rattle.toml.specs.View.{view}
use Rattle.scenario_file.specs.Document.{number_in}
use Rattle.scenario_file.proofs.Lists.{map_more}
use Rattle.scenario_file.proofs.document.numbers_in.Goals as goal

pub loop-value-preserved : goal.loop-value-preserved
loop-value-preserved c =
    let pushed : c.push.new.self.items ≡ c.loop-value.numbers.items ++ c.number_in.result ∷ [] = search (rules, c.in_ok-push.ensures) in
    let item = c.number_in.ensures ∙ ap (λ v. number_in c.args.key.now c.args.default (view v)) c.value-item.is in
    pushed ∙ (λ i. c.loop-value.invariant i ++ item i ∷ []) ∙ sym (map_more (number_in c.args.key.now c.args.default) view c.args.values.now c.loop-value.value-index c.value-item.result c.loop-value-test.true)

pub loop-value-init : goal.loop-value-init
loop-value-init c = c.new-numbers.ensures.items

pub returns : goal.returns
returns c = c.loop-value.invariant ∙ ap (λ t. map (number_in c.args.key.now c.args.default) (map view t)) (take_all c.loop-value.value-index c.args.values.now c.loop-value-test.false)
