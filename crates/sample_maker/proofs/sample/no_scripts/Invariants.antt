use Rattle.std.proofs.Common.{◌≡◌, map}
use Rattle.std.specs.List.{range_with_len}
use Rattle.scenario_file.specs.Scenario.{no_script}
use Rattle.sample_maker.proofs.sample.no_scripts.Given as goal

abbrev pub invariant-loop-node : goal.invariant-loop-node
invariant-loop-node l = l.scripts.items ≡ map (λ k. no_script) (range_with_len 0 l._node)
