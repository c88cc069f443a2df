use Rattle.std.proofs.Common.{◌≡◌, map, drop}
use Rattle.toml.specs.View.{view}
use Rattle.scenario_file.specs.Scenario.{script_for}
use Rattle.scenario_file.proofs.inputs.script_for.Given as goal

abbrev pub invariant-loop-value : goal.invariant-loop-value
invariant-loop-value l = script_for l.node (map view l.values) ≡ script_for l.node (map view (drop l.value-index l.values))
