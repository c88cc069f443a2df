use Rattle.std.proofs.Common.{◌≡◌, ◌==◌, ◌%◌, nat_le, Bool, false, bit_xor, ap, sym, ◌∙◌, arith}
use Rattle.arith_step.specs.Whole.{signs_of}
use Rattle.arith_step.proofs.Signs.{turned}
use Rattle.arith_step.proofs.flags.signs_of.Goals as goal

pub returns-then-v : goal.returns-then-v
returns-then-v c =
    let n = nat_le 128 c.args.r in
    let z = c.args.r == 0 in
    let low : c.from.result % 256 ≡ c.args.r = grind (arith, c.from.ensures) in
    let signs = c.signs_without_overflow-signs.ensures ∙ ap (λ r. signs_of (nat_le 128 r) (r == 0) false) low in
    c.turned.ensures ∙ ap (λ x. bit_xor x 24) signs ∙ (turned n z ∙ ap (λ (v : Bool). signs_of n z v) (sym c.if-v.true))

pub returns-else-v : goal.returns-else-v
returns-else-v c =
    let n = nat_le 128 c.args.r in
    let z = c.args.r == 0 in
    let low : c.from.result % 256 ≡ c.args.r = grind (arith, c.from.ensures) in
    c.signs_without_overflow-signs.ensures ∙ ap (λ r. signs_of (nat_le 128 r) (r == 0) false) low ∙ ap (λ (v : Bool). signs_of n z v) (sym c.if-v.false)
