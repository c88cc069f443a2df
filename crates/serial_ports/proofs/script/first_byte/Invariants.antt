use Rattle.serial_ports.proofs.ScriptArrivals.{IsPast}
use Rattle.serial_ports.proofs.script.first_byte.Given as goal

abbrev pub invariant-loop-stretch : goal.invariant-loop-stretch
invariant-loop-stretch l = IsPast l.stretches l.cycle l.stretch-index
