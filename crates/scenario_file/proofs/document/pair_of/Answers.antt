use Rattle.std.proofs.Common.{ap, map, ◌∙◌, rules}
use Rattle.toml.specs.View.{view}
use Rattle.scenario_file.specs.Document.{pair_in}
use Rattle.scenario_file.proofs.Lists.{array_pair}
use Rattle.scenario_file.proofs.document.pair_of.Goals as goal

pub returns-in-Some : goal.returns-in-Some
returns-in-Some c = c.pair_in.ensures ∙ (ap (λ vs. pair_in (map view vs)) c.as_slice.ensures.value ∙ array_pair _ _ (search (rules, c.in-Some.ensures)))
