-- The tallies of all nodes. Own to this simulator.
use Rattle.std.specs.Prelude.{ℕ, List, map}
use Rattle.std.specs.List.{range_with_len}
use Rattle.node_core.specs.declared.row.Row.{Row}
use Rattle.node_monitors.specs.Tally.{TallyOf, tallied_all, untallied}

-- the tally of a node over a window that took these rows
abbrev pub tally_of : ℕ × ℕ → List Row → ℕ → TallyOf
tally_of window rows node = tallied_all rows (untallied node window)

-- one for each node, in order of number
unfoldable pub tallies : ℕ → ℕ × ℕ → List Row → List TallyOf
tallies nodes window rows = map (tally_of window rows) (range_with_len 0 nodes)
