use Rattle.std.proofs.Common.{◌≡◌, false}
use Rattle.scenario_file.specs.Faults.{any_twice}
use Rattle.scenario_file.proofs.inputs.any_twice.Given as goal

abbrev pub invariant-loop-node : goal.invariant-loop-node
invariant-loop-node l = any_twice l.node l.nodes ≡ false
