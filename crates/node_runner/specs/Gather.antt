-- Where a node begins, its last row, and its rows taken. Own to this simulator.
use Rattle.std.specs.Prelude.{ℕ, false}
use Rattle.node_core.specs.declared.row.Row.{Row}
use Rattle.node_core.specs.Cycle.{end_row}
use Rattle.node_runner.specs.Scenario.{ScenarioOf}
use Rattle.node_runner.specs.Place.{Place, state_at}

abbrev pub start_of : ScenarioOf → ℕ → Place
start_of sc k = record { scenario = sc; number = k; since = 0; cycle = 0; asking = false; unnoted = false }

abbrev pub end_row_of : Place → Row
end_row_of p = end_row p.scenario.topo.limit (state_at p)

-- its rows are taken
abbrev pub taken : Place → Place
taken p = record p { since = p.cycle }
