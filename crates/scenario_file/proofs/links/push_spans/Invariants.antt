use Rattle.std.proofs.Common.{◌≡◌, ◌++◌, map, take}
use Rattle.toml.specs.View.{view}
use Rattle.scenario_file.specs.Scenario.{span_of}
use Rattle.scenario_file.proofs.links.push_spans.Given as goal

abbrev pub invariant-loop-value : goal.invariant-loop-value
invariant-loop-value l = l.spans.items ≡ l.initial.spans.items ++ map (span_of l.place) (map view (take l.value-index l.values))
