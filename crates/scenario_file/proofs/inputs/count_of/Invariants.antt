use Rattle.std.proofs.Common.{◌≡◌, ◌≤◌, ◌==◌, take}
use Rattle.std.specs.List.{count_by}
use Rattle.scenario_file.proofs.inputs.count_of.Given as goal

abbrev pub invariant-loop-other : goal.invariant-loop-other
invariant-loop-other l = record {
  count : l.count ≡ count_by (λ m. m == l.node) (take l.other-index l.nodes);
  few : l.count ≤ l.other-index;
}
