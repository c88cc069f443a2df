use Rattle.std.proofs.Common.{◌≡◌, map}
use Rattle.toml.specs.View.{view}
use Rattle.scenario_file.specs.Scenario.{scripts_below}
use Rattle.scenario_file.proofs.inputs.scripts_of.Given as goal

abbrev pub invariant-loop-node : goal.invariant-loop-node
invariant-loop-node l = l.scripts.items ≡ scripts_below l.node (map view l.values)
