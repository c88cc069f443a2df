use Rattle.std.proofs.Common.{take_all, ◌++◌, length, ap, sym, ◌∙◌, arith}
use Rattle.ihex_loader.specs.Flash.{bytes_of_words}
use Rattle.ihex_loader.proofs.Words.{bytes_more}
use Rattle.ihex_loader.proofs.flash.bytes_of.Goals as goal

pub loop-word-preserved : goal.loop-word-preserved
loop-word-preserved c =
    let e = c.in_ok-extend_from_slice.ensures in
    let grown = e.len in
    let two = ap length c.to_le_bytes.ensures in
    let before = c.loop-word.invariant.len in
    record {
      len = omega (arith, grown, two, before);
      bytes = e.items ∙ (λ i. c.loop-word.invariant.bytes i ++ c.to_le_bytes.ensures i) ∙ sym (bytes_more c.args.words.now c.loop-word.word-index c.loop-word-test.true (let fits = c.type_inv.words c.loop-word.word-index in omega (arith, fits)));
    }

pub loop-word-init : goal.loop-word-init
loop-word-init c = let e = c.in_ok-bytes.ensures.items in record { len = ap length e; bytes = e }

pub returns-clause-bytes : goal.returns-clause-bytes
returns-clause-bytes c = c.loop-word.invariant.bytes ∙ ap bytes_of_words (take_all c.loop-word.word-index c.args.words.now c.loop-word-test.false)

pub returns-clause-len : goal.returns-clause-len
returns-clause-len c = let n = c.loop-word.invariant.len in let all = c.loop-word-test.false in omega (arith, n, all)
