use Rattle.std.proofs.Common.{ap, map, ◌∙◌, rules}
use Rattle.toml.specs.View.{view}
use Rattle.scenario_file.specs.Rules.{are_spans}
use Rattle.scenario_file.proofs.Lists.{array_test}
use Rattle.scenario_file.proofs.ranges.is_array_of_spans.Goals as goal

pub returns-in-Some : goal.returns-in-Some
returns-in-Some c = c.are_spans.ensures ∙ (ap (λ vs. are_spans (map view vs)) c.as_slice.ensures.value ∙ array_test (are_spans) _ _ (search (rules, c.in-Some.ensures)))
