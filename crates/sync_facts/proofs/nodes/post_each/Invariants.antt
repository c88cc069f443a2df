use Rattle.std.proofs.Common.{◌≡◌}
use Rattle.sync_facts.proofs.nodes.post_each.Given as goal

abbrev pub invariant-loop-place : goal.invariant-loop-place
invariant-loop-place g l = record {
  table : l.node.table ≡ l.fn.node.table;
  world : l.node.world ≡ l.fn.node.world;
  number : l.node.number ≡ l.fn.node.number;
}
