-- The rules of tables as one: of a table, of a row of an array, of all rows of one, and of a document with its three
-- arrays.
use Rattle.std.specs.Prelude.{◌&&◌, Bool, true, false, not, List}
use Rattle.std.specs.List.{list_all}
use Rattle.std.specs.Option.{option_map_or}
use Rattle.toml.specs.Data.{Data, as_table, Members}
use Rattle.scenario_file.specs.Rules.{lacks_key, has_kinds, has_ranges}
use Rattle.scenario_file.specs.Faults.{nodes, links, inputs, has_unknown_key}
use Rattle.scenario_file.specs.declared.keys.Keys.{Keys}
use Rattle.scenario_file.specs.declared.keys.Keys.TheVariants.{Top, OfNode, OfLink, OfInput}
use Rattle.scenario_file.specs.declared.rules.Rule.{Rule}
use Rattle.scenario_file.specs.declared.rules.Rule.TheVariants.{NoOtherKey, Complete, RightKinds, InRange}

abbrev pub holds : Rule → Keys → Members → Bool
holds (NoOtherKey version) keys ms = not (has_unknown_key version keys ms)
holds Complete keys ms = not (lacks_key keys ms)
holds RightKinds keys ms = has_kinds keys ms
holds (InRange version count) keys ms = has_ranges version count keys ms

-- what is no table has no keys, and is told by the kinds
abbrev pub holds_of_others : Rule → Bool
holds_of_others (NoOtherKey version) = true
holds_of_others Complete = true
holds_of_others RightKinds = false
holds_of_others (InRange version count) = false

abbrev pub holds_of : Rule → Keys → Data → Bool
holds_of rule keys d = option_map_or (holds rule keys) (as_table d) (holds_of_others rule)

unfoldable pub holds_of_all : Rule → Keys → List Data → Bool
holds_of_all rule keys ds = list_all (holds_of rule keys) ds

unfoldable pub holds_in : Rule → Members → Bool
holds_in rule ms = holds rule Top ms && holds_of_all rule OfNode (nodes ms) && holds_of_all rule OfLink (links ms) && holds_of_all rule OfInput (inputs ms)
