use Rattle.std.proofs.Common.{◌≡◌, map, take}
use Rattle.toml.specs.View.{view}
use Rattle.scenario_file.specs.Document.{number_in}
use Rattle.scenario_file.proofs.document.numbers_in.Given as goal

abbrev pub invariant-loop-value : goal.invariant-loop-value
invariant-loop-value l = l.numbers.items ≡ map (number_in l.key l.default) (map view (take l.value-index l.values))
