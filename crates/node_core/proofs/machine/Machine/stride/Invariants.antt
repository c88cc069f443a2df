use Rattle.std.proofs.Common.{◌-◌}
use Rattle.node_core.proofs.Striding.{IsStriding}
use Rattle.node_core.proofs.machine.Machine.stride.Given as goal

abbrev pub invariant-loop-cycle : goal.invariant-loop-cycle
invariant-loop-cycle l = IsStriding l.cycle l.at l.end l.fn.self l.self

abbrev pub decreases-loop-cycle : goal.decreases-loop-cycle
decreases-loop-cycle l = l.end - l.at
