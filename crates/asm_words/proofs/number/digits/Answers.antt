use Rattle.std.proofs.Common.{◌≡◌, ◌+◌, ◌*◌, ap, sym, ◌∙◌, arith, min, drop}
use Rattle.std.proofs.lemmas.List.{drop_all}
use Rattle.asm_words.specs.Number.{digits_from, digits_of}
use Rattle.asm_words.proofs.Digits.{one_more, no_digit}
use Rattle.asm_words.proofs.number.digits.Goals as goal

pub loop-b-preserved : goal.loop-b-preserved
loop-b-preserved c =
    let value : c.min-value.result ≡ min (c.args.base * c.loop-b.value + _) 65536 = c.min-value.ensures ∙ ap (λ d. min (c.args.base * c.loop-b.value + d) 65536) c.digit.ensures.value in
    record {
      small = let e = c.min-value.ensures in omega (arith, e);
      rest = c.loop-b.invariant.rest ∙ one_more c.args.base c.loop-b.value c.args.text.now c.loop-b.b-index c.loop-b-test.true c.if-not-is_digit.ensures ∙ ap (λ v. digits_from c.args.base v (drop (c.loop-b.b-index + 1) c.args.text.now)) (sym value);
    }

pub returns-then-not-is_digit-clause-value : goal.returns-then-not-is_digit-clause-value
unfolding digits_of
returns-then-not-is_digit-clause-value c = sym (c.loop-b.invariant.rest ∙ no_digit c.args.base c.loop-b.value c.args.text.now c.loop-b.b-index c.loop-b-test.true c.if-not-is_digit.ensures)

pub returns-clause-value : goal.returns-clause-value
unfolding digits_of
returns-clause-value c = sym (c.loop-b.invariant.rest ∙ ap (digits_from c.args.base c.loop-b.value) (drop_all c.loop-b.b-index c.args.text.now c.loop-b-test.false))
