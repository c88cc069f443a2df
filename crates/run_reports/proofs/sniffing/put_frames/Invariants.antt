use Rattle.std.proofs.Common.{◌≡◌, ◌++◌, take}
use Rattle.std.specs.List.{flat_map}
use Rattle.run_reports.specs.Frames.{frame_line}
use Rattle.run_reports.proofs.sniffing.put_frames.Given as goal

abbrev pub invariant-loop-frame : goal.invariant-loop-frame
invariant-loop-frame l = l.text.items ≡ l.fn.text.items ++ flat_map frame_line (take l.frame-index l.frames)
