use Rattle.std.proofs.Common.{◌≡◌, ◌++◌}
use Rattle.ihex_loader.specs.Hex.{records_to}
use Rattle.ihex_loader.proofs.text.put_rows.Given as goal

abbrev pub invariant-loop-n : goal.invariant-loop-n
invariant-loop-n l = l.text.items ≡ l.initial.text.items ++ records_to l.n l.bytes
