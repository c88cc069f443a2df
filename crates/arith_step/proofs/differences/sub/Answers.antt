use Rattle.std.proofs.Common.{arith}
use Rattle.arith_step.proofs.Carries.{difference_put}
use Rattle.arith_step.proofs.differences.sub.Goals as goal

pub returns : goal.returns
returns c =
    let d = c.difference-difference in
    difference_put c.args.a c.args.b c.args.borrow d.result (omega arith) (omega arith) d.ensures c.args.keep_z c.args.s c.difference_signs.result c.borrows_at.result (omega arith) c.difference_signs.ensures c.borrows_at.ensures
