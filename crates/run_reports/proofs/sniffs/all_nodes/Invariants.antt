use Rattle.std.proofs.Common.{◌≡◌}
use Rattle.run_reports.specs.Sniffing.{of_each, unfed}
use Rattle.run_reports.proofs.sniffs.all_nodes.Given as goal

abbrev pub invariant-loop-node : goal.invariant-loop-node
invariant-loop-node l = l.all.items ≡ of_each l.node unfed
