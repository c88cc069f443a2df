use Rattle.std.proofs.Common.{◌≡◌, ◌++◌, drop, map, take}
use Rattle.run_reports.specs.Sniffing.{fed_more}
use Rattle.run_reports.proofs.sniffs.feed_all.Given as goal

abbrev pub invariant-loop-sniffing : goal.invariant-loop-sniffing
invariant-loop-sniffing l = l.sniffing-items ≡ map (fed_more l.sends) (take l.sniffing-index l.fn.all.items) ++ drop l.sniffing-index l.fn.all.items
