use Rattle.std.proofs.Common.{◌≡◌, nat_lt, not, true, sym, subst, ap, ◌∙◌, arith}
use Rattle.std.proofs.lemmas.Bool.Decides.{nat_tests}
use Rattle.avr_decoder.specs.declared.op.Op.{Op}
use Rattle.node_core.specs.Pace.Leaps.{GoesOnBy}
use Rattle.node_core.proofs.Polls.{off, sbic_goes_on, sbis_goes_on}
use Rattle.node_core.proofs.pace.leaps.goes_on_by.Goals as goal

pub returns-then-a-lt32 : goal.returns-then-a-lt32
returns-then-a-lt32 c e =
    let few : nat_lt c.in-Sbis.a 0x20 ≡ true = grind (arith, c.if-a-lt32.true, nat_tests) in
    subst (λ (o : Op). GoesOnBy o c.args.byte) (sym c.in-Sbis.is) (sbis_goes_on c.in-Sbis.a c.in-Sbis.b c.args.byte few (sym c.has.ensures ∙ off c.has.result e))

pub returns-then-a-lt32-2 : goal.returns-then-a-lt32-2
returns-then-a-lt32-2 c e =
    let few : nat_lt c.in-Sbic.a 0x20 ≡ true = grind (arith, c.if-a-lt32-2.true, nat_tests) in
    subst (λ (o : Op). GoesOnBy o c.args.byte) (sym c.in-Sbic.is) (sbic_goes_on c.in-Sbic.a c.in-Sbic.b c.args.byte few (ap not (sym c.has-then-a-lt32-2.ensures ∙ e)))
