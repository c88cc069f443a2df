use Rattle.std.proofs.Common.{◌≡◌, List, subst, sym}
use Rattle.std.specs.List.Sorted.{IsStableByKey}
use Rattle.std.specs.Ordering.{nat_cmp}
use Rattle.air_base.specs.declared.air.Send.{Send}
use Rattle.send_order.proofs.ordered.Goals as goal

pub returns : goal.returns
returns c = record {
  ys = c.sort_by_node.new.sends.items;
  nodes = c.in_ok-sort_by_node.ensures.sorted;
  kept = subst (λ (l : List Send). IsStableByKey (λ (x : Send). x.node) nat_cmp l c.sort_by_node.new.sends.items) c.in_ok-ordered.ensures.items c.in_ok-sort_by_node.ensures.stable;
  cycles = c.in_ok-sort_by_cycle.ensures.sorted;
  moved = c.in_ok-sort_by_cycle.ensures.stable;
}
