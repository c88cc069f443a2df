-- The rows of the nodes. Own to this simulator.
use Rattle.std.specs.Prelude.{◌≡◌, false, List}
use Rattle.node_core.specs.declared.row.Row.{Row}
use Rattle.node_runner.specs.Place.{rows_of, HasEnded}
use Rattle.node_runner.specs.Gather.{taken, end_row_of}
use Rattle.fleet_threads.specs.declared.member.Member.{Member}

abbrev pub rows_at : Member → List Row
rows_at m = rows_of m.runner

abbrev pub end_row_at : Member → Row
end_row_at m = end_row_of m.runner

-- its rows are taken
abbrev pub taken_at : Member → Member
taken_at m = record m { runner = taken m.runner }

abbrev pub HasEndedAt : Member → Type 0
HasEndedAt m = HasEnded m.runner

abbrev pub IsCalm : Member → Type 0
IsCalm m = m.runner.asking ≡ false
