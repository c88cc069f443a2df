use Rattle.std.proofs.Common.{◌≡◌}
use Rattle.sync_facts.proofs.waits.sample_each.Given as goal

abbrev pub invariant-loop-place : goal.invariant-loop-place
invariant-loop-place g l = record {
  table : l.node.table ≡ l.fn.node.table;
  world : l.node.world ≡ l.fn.node.world;
}
