use Rattle.std.proofs.Common.{◌≡◌, ◌≤◌, map, take, sum}
use Rattle.toml.specs.View.{view}
use Rattle.scenario_file.specs.Rules.{most_amount}
use Rattle.scenario_file.specs.Faults.{amount_of}
use Rattle.scenario_file.proofs.amounts.is_few.Given as goal

abbrev pub invariant-loop-value : goal.invariant-loop-value
invariant-loop-value l = record {
  total : l.total ≡ sum (map (amount_of l.keys) (map view (take l.value-index l.values)));
  few : l.total ≤ most_amount l.keys;
}
