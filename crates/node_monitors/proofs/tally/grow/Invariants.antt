use Rattle.std.proofs.Common.{◌≡◌, ◌≤◌, ◌-◌, ◌++◌, length, map, max}
use Rattle.std.specs.List.{range_with_len}
use Rattle.node_monitors.specs.Spent.{unused}
use Rattle.node_monitors.proofs.tally.grow.Given as goal

abbrev pub invariant-loop-word : goal.invariant-loop-word
invariant-loop-word l = record {
  slots : l.slots.items ≡ l.fn.slots.items ++ map unused (range_with_len (length l.fn.slots.items) (l.word - length l.fn.slots.items));
  low : length l.fn.slots.items ≤ l.word;
  high : l.word ≤ max (length l.fn.slots.items) l.words;
}
