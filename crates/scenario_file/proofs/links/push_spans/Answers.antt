use Rattle.std.proofs.Common.{append-nil, take_all, ◌≡◌, ◌++◌, ◌∷◌, [], append_assoc, ap, sym, ◌∙◌, map, take, rules}
use Rattle.toml.specs.View.{view}
use Rattle.scenario_file.specs.Scenario.{span_of}
use Rattle.scenario_file.proofs.Lists.{map_more}
use Rattle.scenario_file.proofs.links.push_spans.Goals as goal

pub loop-value-preserved : goal.loop-value-preserved
loop-value-preserved c =
    let before = c.args.spans.now.items in
    let values = c.args.values.now in
    let k = c.loop-value.value-index in
    let pushed : c.push.new.self.items ≡ c.loop-value.spans.items ++ c.span_of.result ∷ [] = search (rules, c.in_ok-push.ensures) in
    let item = c.span_of.ensures ∙ ap (λ v. span_of c.args.place (view v)) c.value-item.is in
    pushed ∙ (λ i. c.loop-value.invariant i ++ item i ∷ []) ∙ append_assoc before (map (span_of c.args.place) (map view (take k values))) _
    ∙ ap (λ t. before ++ t) (sym (map_more (span_of c.args.place) view values k c.value-item.result c.loop-value-test.true))

pub returns : goal.returns
returns c = c.loop-value.invariant ∙ ap (λ t. c.args.spans.now.items ++ map (span_of c.args.place) (map view t)) (take_all c.loop-value.value-index c.args.values.now c.loop-value-test.false)

pub loop-value-init : goal.loop-value-init
loop-value-init c = sym (append-nil c.args.spans.now.items)
