use Rattle.std.proofs.Common.{◌≡◌, map, length}
use Rattle.toml.specs.View.{view}
use Rattle.scenario_file.specs.Rules.{are_spans_behind}
use Rattle.scenario_file.proofs.ranges.are_spans_from_zero.Given as goal

abbrev pub invariant-loop-first : goal.invariant-loop-first
invariant-loop-first l = are_spans_behind 0 (map view l.values) ≡ are_spans_behind l.last (map view l.rest)

abbrev pub decreases-loop-first : goal.decreases-loop-first
decreases-loop-first l = length l.rest
