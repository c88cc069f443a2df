use Rattle.std.proofs.Common.{◌+◌, ◌-◌, ◌*◌, get_or, drop, ap, sym, ◌∙◌, arith}
use Rattle.std.proofs.lemmas.List.{drop_all}
use Rattle.state_text.specs.Parts.{read_on}
use Rattle.state_text.proofs.Digits.{digit_at, read_step, read_ge}
use Rattle.state_text.proofs.numbers.value.Goals as goal

pub with_digit-requires : goal.with_digit-requires
with_digit-requires c = digit_at c.args.digits.now c.loop-digit.digit-index c.requires c.loop-digit-test.true

pub loop-digit-preserved : goal.loop-digit-preserved
loop-digit-preserved c =
    c.loop-digit.invariant ∙ read_step c.loop-digit.value c.args.digits.now c.loop-digit.digit-index c.loop-digit-test.true
    ∙ ap (λ n. read_on n (drop (c.loop-digit.digit-index + 1) c.args.digits.now)) (sym c.in-Some.ensures.some)

pub returns-in-None-clause-none : goal.returns-in-None-clause-none
returns-in-None-clause-none c =
    let e = c.loop-digit.invariant ∙ read_step c.loop-digit.value c.args.digits.now c.loop-digit.digit-index c.loop-digit-test.true in
    let least = read_ge (c.loop-digit.value * 10 + (get_or c.args.digits.now c.loop-digit.digit-index 0 - 48)) (drop (c.loop-digit.digit-index + 1) c.args.digits.now) in
    let high = c.in-None.ensures.none in
    omega (arith, e, least, high)

pub returns-clause-some : goal.returns-clause-some
returns-clause-some c = sym (c.loop-digit.invariant ∙ ap (read_on c.loop-digit.value) (drop_all c.loop-digit.digit-index c.args.digits.now c.loop-digit-test.false))
