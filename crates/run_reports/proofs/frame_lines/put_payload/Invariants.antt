use Rattle.std.proofs.Common.{◌≡◌, ◌++◌, take}
use Rattle.std.specs.List.{flat_map}
use Rattle.sim_io.specs.Digits.{hex2}
use Rattle.run_reports.proofs.frame_lines.put_payload.Given as goal

abbrev pub invariant-loop-byte : goal.invariant-loop-byte
invariant-loop-byte l = l.text.items ≡ l.fn.text.items ++ flat_map hex2 (take l.byte-index l.bytes)
