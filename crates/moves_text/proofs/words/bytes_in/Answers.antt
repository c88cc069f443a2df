use Rattle.std.proofs.Common.{sym, ◌∙◌, arith}
use Rattle.hex.proofs.HexLemmas.{decode_of-ok}
use Rattle.moves_text.proofs.Lines.{some_left}
use Rattle.moves_text.proofs.words.bytes_in.Goals as goal

pub returns-in-Ok-clause-some : goal.returns-in-Ok-clause-some
returns-in-Ok-clause-some c =
    let ok = decode_of-ok c.args.word.now c.in-Ok.bytes.items c.in-Ok.ensures.ok in
    let some = some_left c.args.word.now (sym c.is_empty.ensures ∙ c.if-is_empty.false) in
    let twice = ok.2 in
    omega (arith, twice, some)
