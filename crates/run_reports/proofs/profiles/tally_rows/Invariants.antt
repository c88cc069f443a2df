use Rattle.std.proofs.Common.{◌≡◌, ℕ, List, ◌++◌, take}
use Rattle.node_core.specs.declared.row.Row.{Row}
use Rattle.run_reports.specs.Tallies.{tallies}
use Rattle.run_reports.proofs.profiles.tally_rows.Given as goal

abbrev pub invariant-loop-row : goal.invariant-loop-row
invariant-loop-row l = (nodes : ℕ) (window : ℕ × ℕ) (before : List Row) → l.fn.all.items ≡ tallies nodes window before → l.all.items ≡ tallies nodes window (before ++ take l.row-index l.rows)
