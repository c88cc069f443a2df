use Rattle.std.proofs.Common.{ap, map, ◌∙◌, rules}
use Rattle.toml.specs.View.{view}
use Rattle.scenario_file.specs.Rules.{are_two}
use Rattle.scenario_file.proofs.Lists.{array_test}
use Rattle.scenario_file.proofs.kinds.is_two.Goals as goal

pub returns-in-Some : goal.returns-in-Some
returns-in-Some c = c.are_two.ensures ∙ (ap (λ vs. are_two (map view vs)) c.as_slice.ensures.value ∙ array_test (are_two) _ _ (search (rules, c.in-Some.ensures)))
