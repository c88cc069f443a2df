use Rattle.std.proofs.Common.{◌≡◌, ◌+◌, ◌*◌, arith}
use Rattle.arith_step.specs.Whole.{one_if}
use Rattle.arith_step.proofs.Carries.{shift_put}
use Rattle.arith_step.proofs.shifts.shift.Goals as goal

pub returns : goal.returns
returns c =
    let w = c.from.result + 256 * c.from-2.result in
    let one : c.from-2.result ≡ one_if c.args.top = grind (arith, c.from-2.ensures) in
    let whole : w ≡ c.args.a + 256 * one_if c.args.top = (λ i. c.from.ensures i + 256 * one i) in
    shift_put c.args.top c.args.a c.args.s w (omega arith) (omega arith) whole
