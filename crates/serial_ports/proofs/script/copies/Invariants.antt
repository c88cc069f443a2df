use Rattle.std.proofs.Common.{◌≡◌, take}
use Rattle.serial_ports.proofs.script.copies.Given as goal

abbrev pub invariant-loop-stretch : goal.invariant-loop-stretch
invariant-loop-stretch l = l.copies.items ≡ take l.stretch-index l.stretches
