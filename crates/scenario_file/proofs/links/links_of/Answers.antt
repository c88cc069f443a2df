use Rattle.std.proofs.Common.{map, take_all, ◌≡◌, ◌++◌, ◌∷◌, [], arith, ap, sym, ◌∙◌, rules}
use Rattle.toml.specs.View.{view}
use Rattle.scenario_file.specs.Document.{on_table}
use Rattle.scenario_file.specs.Rules.{has_ranges}
use Rattle.scenario_file.specs.Faults.{all_in_range, link_of}
use Rattle.scenario_file.specs.declared.keys.Keys.TheVariants.{OfLink}
use Rattle.scenario_file.proofs.Lists.{all_at, map_more}
use Rattle.scenario_file.proofs.links.links_of.Goals as goal

pub link_of-requires-clause-fits : goal.link_of-requires-clause-fits
unfolding all_in_range
link_of-requires-clause-fits c = ap (λ v. on_table (has_ranges c.args.version c.args.count OfLink) (view v)) c.value-item.is ∙ all_at (on_table (has_ranges c.args.version c.args.count OfLink)) view c.args.values.now c.loop-value.value-index _ (omega arith) c.requires.fits

pub loop-value-preserved : goal.loop-value-preserved
loop-value-preserved c =
    let pushed : c.push.new.self.items ≡ c.loop-value.links.items ++ c.link_of.result ∷ [] = search (rules, c.in_ok-push.ensures) in
    let item = c.link_of.ensures ∙ ap (λ v. link_of (view v)) c.value-item.is in
    pushed ∙ (λ i. c.loop-value.invariant i ++ item i ∷ []) ∙ sym (map_more link_of view c.args.values.now c.loop-value.value-index c.value-item.result c.loop-value-test.true)

pub loop-value-init : goal.loop-value-init
loop-value-init c = c.new-links.ensures.items

pub returns : goal.returns
returns c = c.loop-value.invariant ∙ ap (λ t. map link_of (map view t)) (take_all c.loop-value.value-index c.args.values.now c.loop-value-test.false)
