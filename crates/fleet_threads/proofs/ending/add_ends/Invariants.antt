use Rattle.std.proofs.Common.{◌≡◌, ◌++◌, map, take}
use Rattle.fleet_threads.specs.Ending.{end_row_at}
use Rattle.fleet_threads.proofs.ending.add_ends.Given as goal

abbrev pub invariant-loop-member : goal.invariant-loop-member
invariant-loop-member l = l.rows.items ≡ l.fn.rows.items ++ map end_row_at (take l.member-index l.members)
