use Rattle.std.proofs.Common.{◌+◌, ◌-◌, ◌%◌, ap, ◌∙◌, arith}
use Rattle.arith_step.proofs.Carries.{difference_word_put}
use Rattle.arith_step.proofs.words.sbiw.Goals as goal

pub returns : goal.returns
returns c =
    let difference = c.difference-r.ensures ∙ ap (λ k. (c.args.a + 65536 - k) % 65536) c.from.ensures in
    difference_word_put c.args.a c.args.k c.args.s c.with_word.result c.difference-r.result c.signs.result (omega arith) (omega arith) (omega arith) difference c.signs.ensures c.with_word.ensures
