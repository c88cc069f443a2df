use Rattle.std.proofs.Common.{◌≡◌}
use Rattle.std.specs.List.{flat_map}
use Rattle.run_reports.specs.Sniffing.{watch_text}
use Rattle.run_reports.proofs.sniffs.frames_of.Given as goal

abbrev pub invariant-loop-sniffing : goal.invariant-loop-sniffing
invariant-loop-sniffing l = l.text.items ≡ flat_map watch_text l.yielded
