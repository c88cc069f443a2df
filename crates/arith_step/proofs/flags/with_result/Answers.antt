use Rattle.std.proofs.Common.{◌==◌, nat_le, bit_and, bit_or, ap, ◌∙◌, arith}
use Rattle.arith_step.proofs.Signs.{put_at_once}
use Rattle.arith_step.proofs.flags.with_result.Goals as goal

pub returns : goal.returns
returns c =
    let bits = c.args.s.bits in
    ap (λ x. bit_or (bit_and bits 225) x) c.signs_of.ensures ∙ put_at_once (nat_le 128 c.args.r) (c.args.r == 0) c.args.v bits (omega arith)
