use Rattle.std.proofs.Common.{◌≡◌, ◌++◌, map, take, drop}
use Rattle.std.specs.List.{flat_map}
use Rattle.fleet_threads.specs.Ending.{rows_at, taken_at}
use Rattle.fleet_threads.proofs.ending.gather.Given as goal

abbrev pub invariant-loop-member : goal.invariant-loop-member
invariant-loop-member l = record {
  rows : l.rows.items ≡ flat_map rows_at (take l.member-index l.fn.members.items);
  left : l.member-items ≡ map taken_at (take l.member-index l.fn.members.items) ++ drop l.member-index l.fn.members.items;
}
