use Rattle.std.proofs.Common.{◌≡◌}
use Rattle.node_monitors.specs.Spent.{table, unused}
use Rattle.node_monitors.proofs.spent.unused_table.Given as goal

abbrev pub invariant-loop-word : goal.invariant-loop-word
invariant-loop-word l = l.slots.items ≡ table l.word unused
