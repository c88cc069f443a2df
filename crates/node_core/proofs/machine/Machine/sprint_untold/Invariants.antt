use Rattle.std.proofs.Common.{◌≡◌, ◌-◌, nat_lt}
use Rattle.node_core.specs.declared.machine.Machine.{Machine}
use Rattle.node_core.specs.Pace.Midway.{IsTurning}
use Rattle.node_core.proofs.Turns.{IsInner}
use Rattle.node_core.proofs.machine.Machine.sprint_untold.Given as goal

abbrev pub invariant-loop-self : goal.invariant-loop-self
invariant-loop-self l = record {
  turning : IsTurning l.cycle l.end l.fn.self l.self l.regs l.core l.owed_to;
  flag : nat_lt l.flags 128 ≡ nat_lt l.core.sreg.bits 128;
}

abbrev pub decreases-loop-self : goal.decreases-loop-self
decreases-loop-self l = l.end - l.self.bus.io.clock

-- in it the machine is lent in parts, of which two change: the data space and the count
abbrev pub invariant-loop-self-2 : goal.invariant-loop-self-2
invariant-loop-self-2 l =
    let a = l.initial.self in
    let b = a.1.1.1 in
    let d = b.1.1.1 in
    let e = d.1.1.1 in
    let f = e.1.1.1 in
    let began : Machine = record { number = a.1.0; program = a.1.1.0; script = b.0; from = b.1.0; to = b.1.1.0; cpu = d.0; bus = d.1.0; wait = d.1.1.0; owed = e.0; asleep = e.1.0; stop = e.1.1.0; count = f.0; rows = f.1.0 } in
    let g = l.self.1.1.1 in
    let h = g.1.1.1 in
    let k = h.1.1.1 in
    let m = k.1.1.1 in
    let now : Machine = record began { bus = h.1.0; count = m.0 } in IsInner l.cycle l.end l.fn.self began now l.regs l.core l.owed_to l.slots l.flags l.bound

abbrev pub decreases-loop-self-2 : goal.decreases-loop-self-2
decreases-loop-self-2 l = let a = l.self.1.1.1 in let b = a.1.1.1 in l.end - b.1.0.io.clock
