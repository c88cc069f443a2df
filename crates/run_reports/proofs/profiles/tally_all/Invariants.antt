use Rattle.std.proofs.Common.{◌≡◌, []}
use Rattle.run_reports.specs.Tallies.{tallies}
use Rattle.run_reports.proofs.profiles.tally_all.Given as goal

abbrev pub invariant-loop-node : goal.invariant-loop-node
invariant-loop-node l = l.all.items ≡ tallies l.node l.window []
