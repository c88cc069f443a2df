-- What is written of the profiles of a run.
use Rattle.std.specs.Prelude.{ℕ, List, ◌++◌, codes, decimal}
use Rattle.std.specs.List.{flat_map}
use Rattle.sim_io.specs.Digits.{hex4}
use Rattle.air_base.specs.Each.{each_below}
use Rattle.world_core.specs.Order.{run_rows}
use Rattle.node_core.specs.declared.row.Row.{Row}
use Rattle.node_runner.specs.Scenario.{ScenarioOf, fleet_of}
use Rattle.node_monitors.specs.Account.{Account, account}
use Rattle.node_monitors.specs.declared.spent.Spent.{Spent}

-- a line of one number of a node
unfoldable pub number_line : ℕ → List ℕ → ℕ → List ℕ
number_line node kind number = decimal node ++ kind ++ decimal number ++ codes "\n"

-- a line of what a node spent at a word of flash: the word, how often, and the cycles
unfoldable pub spent_line : ℕ → List ℕ → Spent → List ℕ
spent_line node kind s = decimal node ++ kind ++ hex4 s.word ++ codes " " ++ decimal s.count ++ codes " " ++ decimal s.cycles ++ codes "\n"

-- the lines of a node's account
unfoldable pub profile_text : ℕ → Account → List ℕ
profile_text node a =
    number_line node (codes " lead ") a.lead ++ flat_map (spent_line node (codes " at ")) a.at ++ flat_map (spent_line node (codes " vector ")) a.entered
    ++ number_line node (codes " asleep ") a.asleep ++ number_line node (codes " stopped ") a.stopped ++ number_line node (codes " charge ") a.charge

-- the cycles in which a network is traced
abbrev pub window_of : ScenarioOf → ℕ × ℕ
window_of network = (network.from, network.to)

-- the profile of a node over a window
unfoldable pub profile_at : ℕ × ℕ → List Row → ℕ → List ℕ
profile_at window rows node = profile_text node (account node window rows)

-- the profile of each node over the window of the trace, by the rows of the whole run, node after node
unfoldable pub profiles_text : ScenarioOf → List ℕ
profiles_text network = each_below network.topo.nodes (profile_at (window_of network) (run_rows (fleet_of network)))
