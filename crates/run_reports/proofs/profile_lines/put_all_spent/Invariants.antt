use Rattle.std.proofs.Common.{◌≡◌, ◌++◌, take}
use Rattle.std.specs.List.{flat_map}
use Rattle.run_reports.specs.Profiles.{spent_line}
use Rattle.run_reports.proofs.profile_lines.put_all_spent.Given as goal

abbrev pub invariant-loop-spent : goal.invariant-loop-spent
invariant-loop-spent l = l.text.items ≡ l.fn.text.items ++ flat_map (spent_line l.node l.kind) (take l.spent-index l.all)
