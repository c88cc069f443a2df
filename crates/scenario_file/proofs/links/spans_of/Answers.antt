use Rattle.std.proofs.Common.{◌≡◌, ap, sym, ◌∙◌, ◌++◌, map, take, get_or, codes}
use Rattle.toml.specs.View.{view}
use Rattle.scenario_file.specs.Document.{elements, members_of}
use Rattle.scenario_file.specs.Scenario.{span_of, spans_from}
use Rattle.scenario_file.proofs.Spans.{spans_more}
use Rattle.scenario_file.proofs.links.spans_of.Goals as goal

pub loop-place-init : goal.loop-place-init
unfolding spans_from
loop-place-init c = c.new-spans.ensures.items

pub loop-place-preserved : goal.loop-place-preserved
loop-place-preserved c =
    let values = c.args.values.now in
    let item = get_or values c.loop-place.place c.index-values-place.result in
    let at : map view c.elements_in.result.now ≡ elements (codes "open") (members_of (view item)) = c.elements_in.ensures ∙ ap (λ v. elements (codes "open") (members_of (view v))) c.index-values-place.is in
    c.in_ok-push_spans.ensures ∙ ap (λ t. t ++ map (span_of c.loop-place.place) (map view c.elements_in.result.now)) c.loop-place.invariant ∙ ap (λ t. spans_from 0 (map view (take c.loop-place.place values)) ++ map (span_of c.loop-place.place) t) at
    ∙ sym (spans_more view values c.loop-place.place c.index-values-place.result c.loop-place-test.true)
