use Rattle.std.proofs.Common.{◌≤◌, ◌<◌, length, arith}
use Rattle.std.proofs.lemmas.Bool.Decides.{nat_tests}
use Rattle.serial_ports.proofs.StretchArrivals.{quiet-ever, quiet-until}
use Rattle.serial_ports.proofs.stretch.Stretch.rest.Goals as goal

pub returns-then-is_empty : goal.returns-then-is_empty
returns-then-is_empty c =
    let some : 1 ≤ c.args.self.now.every = rw (← c.self.view_is) c.self.invariant.some in
    let empty : length c.args.self.now.bytes ≤ 0 = rw (← c.self.view_is) (grind (arith, nat_tests)) in
    quiet-ever c.args.self.now c.args.cycle 0 some empty (λ i l. absurd (omega arith))

pub returns-then-number-len : goal.returns-then-number-len
returns-then-number-len c =
    let some : 1 ≤ c.args.self.now.every = rw (← c.self.view_is) c.self.invariant.some in
    let within : c.number_before-number.result < length c.args.self.now.bytes = rw (← c.self.view_is) (omega arith) in
    let behind = rw (← c.self.view_is) at c.number_before-number.ensures.behind in
    quiet-until c.args.self.now c.args.cycle c.number_before-number.result _ some within c.number_before-number.ensures.before (rw (← c.self.view_is) (omega arith))

pub returns-else-number-len : goal.returns-else-number-len
returns-else-number-len c =
    let some : 1 ≤ c.args.self.now.every = rw (← c.self.view_is) c.self.invariant.some in
    quiet-ever c.args.self.now c.args.cycle c.number_before-number.result some (rw (← c.self.view_is) (omega arith)) c.number_before-number.ensures.before
