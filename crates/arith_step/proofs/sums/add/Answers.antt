use Rattle.std.proofs.Common.{arith, ◌+◌, ◌≡◌}
use Rattle.arith_step.specs.Whole.{one_if}
use Rattle.arith_step.proofs.Carries.{sum_put}
use Rattle.arith_step.proofs.sums.add.Goals as goal

pub returns : goal.returns
returns c =
    let sum = c.from.result + c.from-2.result + c.from-3.result in
    let one : c.from-3.result ≡ one_if c.args.carry = grind (arith, c.from-3.ensures) in
    let whole : sum ≡ c.args.a + c.args.b + one_if c.args.carry = (λ i. c.from.ensures i + c.from-2.ensures i + one i) in
    sum_put c.args.a c.args.b c.args.carry c.args.s sum c.signs_without_overflow.result c.carries_at.result (omega arith) (omega arith) (omega arith) whole c.signs_without_overflow.ensures c.carries_at.ensures
