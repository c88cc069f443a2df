use Rattle.std.proofs.Common.{◌≡◌, map, take}
use Rattle.toml.specs.View.{view}
use Rattle.scenario_file.specs.Scenario.{spans_from}
use Rattle.scenario_file.proofs.links.spans_of.Given as goal

abbrev pub invariant-loop-place : goal.invariant-loop-place
invariant-loop-place l = l.spans.items ≡ spans_from 0 (map view (take l.place l.values))
