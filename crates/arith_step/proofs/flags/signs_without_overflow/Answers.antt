use Rattle.std.proofs.Common.{get_or, ap, ◌∙◌, arith}
use Rattle.arith_step.specs.declared.flags.TheConstants.{FLAGS}
use Rattle.arith_step.proofs.Signs.{sign_is}
use Rattle.arith_step.proofs.flags.signs_without_overflow.Goals as goal

pub returns : goal.returns
returns c = sign_is c.args.whole (omega arith)
