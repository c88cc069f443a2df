use Rattle.std.proofs.Common.{◌≡◌, ◌≤◌, take}
use Rattle.std.specs.List.{count_by}
use Rattle.sample_maker.specs.Counts.{is_sent}
use Rattle.sample_maker.proofs.counts.sends.Given as goal

abbrev pub invariant-loop-row : goal.invariant-loop-row
invariant-loop-row l = record {
  count : l.count ≡ count_by is_sent (take l.row-index l.rows);
  few : l.count ≤ l.row-index;
}
