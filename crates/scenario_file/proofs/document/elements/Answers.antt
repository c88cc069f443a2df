use Rattle.std.proofs.Common.{◌≡◌, Some, rules}
use Rattle.toml.specs.Data.{get_member, as_array}
use Rattle.toml.specs.View.{view, items_view, table_view}
use Rattle.scenario_file.proofs.Lists.{elements-array}
use Rattle.scenario_file.proofs.document.elements.Goals as goal

pub returns-in-Some-as_array : goal.returns-in-Some-as_array
returns-in-Some-as_array c =
    let here : get_member c.args.key.now (table_view c.args.table.now) ≡ Some (view c.in-Some.value.now) = search rules in
    let is : Some (items_view c.in-Some-as_array.values.now.items) ≡ as_array (view c.in-Some.value.now) = search (rules, c.in-Some-as_array.ensures) in
    rw c.as_slice.ensures.value (elements-array _ (view c.in-Some.value.now) _ here is)
