use Rattle.std.proofs.Common.{take}
use Rattle.serial_ports.proofs.ScriptArrivals.{IsCalm}
use Rattle.serial_ports.proofs.script.quiet.Given as goal

abbrev pub invariant-loop-stretch : goal.invariant-loop-stretch
invariant-loop-stretch l = IsCalm (take l.stretch-index l.stretches) l.cycle l.most l.quiet
