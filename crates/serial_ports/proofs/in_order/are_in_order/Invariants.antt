use Rattle.std.proofs.Common.{take}
use Rattle.serial_ports.proofs.InOrder.{AreUpTo}
use Rattle.serial_ports.proofs.in_order.are_in_order.Given as goal

abbrev pub invariant-loop-stretch : goal.invariant-loop-stretch
invariant-loop-stretch l = AreUpTo (take l.stretch-index l.stretches) l.from
