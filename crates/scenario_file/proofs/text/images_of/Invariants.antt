use Rattle.std.proofs.Common.{◌≡◌, map, take}
use Rattle.toml.specs.View.{view}
use Rattle.scenario_file.specs.Scenario.{image_of}
use Rattle.scenario_file.proofs.text.images_of.Given as goal

abbrev pub invariant-loop-value : goal.invariant-loop-value
invariant-loop-value l = l.images.items ≡ map image_of (map view (take l.value-index l.values))
