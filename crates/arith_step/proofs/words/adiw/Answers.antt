use Rattle.std.proofs.Common.{◌≡◌, ◌+◌, ◌%◌, arith}
use Rattle.arith_step.proofs.Carries.{sum_word_put}
use Rattle.arith_step.proofs.words.adiw.Goals as goal

pub returns : goal.returns
returns c =
    let r = (c.from.result + c.from-2.result) % 65536 in
    let sum : r ≡ (c.args.a + c.args.k) % 65536 = (λ i. (c.from.ensures i + c.from-2.ensures i) % 65536) in
    sum_word_put c.args.a c.args.k c.args.s c.with_word.result r c.signs.result (omega arith) (omega arith) (omega arith) sum c.signs.ensures c.with_word.ensures
