use Rattle.std.proofs.Common.{◌≡◌, Some, ap, map, ◌∙◌, rules}
use Rattle.toml.specs.Data.{get_member}
use Rattle.toml.specs.View.{view, table_view}
use Rattle.scenario_file.specs.Faults.{all_of_kind}
use Rattle.scenario_file.proofs.Lists.{array_test}
use Rattle.scenario_file.proofs.Held.{kinds_are}
use Rattle.scenario_file.proofs.rules.are_rows_at.Goals as goal

pub returns-in-Some-as_array : goal.returns-in-Some-as_array
returns-in-Some-as_array c =
    let here : get_member c.args.key.now (table_view c.args.table.now) ≡ Some (view c.in-Some.value.now) = search rules in
    rw here (c.holds_of_all.ensures ∙ kinds_are c.args.keys _ ∙ ap (λ vs. all_of_kind c.args.keys (map view vs)) c.as_slice.ensures.value ∙ array_test (all_of_kind c.args.keys) _ _ (search (rules, c.in-Some-as_array.ensures)))
