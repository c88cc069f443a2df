use Rattle.std.proofs.Common.{◌≡◌, map, take}
use Rattle.toml.specs.View.{view}
use Rattle.scenario_file.specs.Faults.{link_of}
use Rattle.scenario_file.proofs.links.links_of.Given as goal

abbrev pub invariant-loop-value : goal.invariant-loop-value
invariant-loop-value l = l.links.items ≡ map link_of (map view (take l.value-index l.values))
