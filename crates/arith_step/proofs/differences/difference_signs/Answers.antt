use Rattle.std.proofs.Common.{◌==◌, ◌&&◌, ◌%◌, nat_le, Bool, bit_and, bit_or, false, if◌then◌else◌, ap, sym, ◌∙◌, arith}
use Rattle.avr_base.specs.Flags.{Z, has_flag}
use Rattle.arith_step.specs.Whole.{signs_of}
use Rattle.arith_step.proofs.Carries.{kept_zero}
use Rattle.arith_step.proofs.differences.difference_signs.Goals as goal

pub returns-then-keep_z : goal.returns-then-keep_z
returns-then-keep_z c =
    let bits = c.args.s.bits in
    let n = nat_le 128 (c.args.whole % 256) in
    let z = c.args.whole % 256 == 0 in
    ap (λ x. bit_and x (bit_or bits 253)) c.signs_without_overflow-signs.ensures
    ∙ kept_zero n z bits (omega arith)
    ∙ ap (λ (k : Bool). signs_of n (if k then has_flag bits Z && z else z) false) (sym c.if-keep_z.true)
