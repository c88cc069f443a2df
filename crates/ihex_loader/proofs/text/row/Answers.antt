use Rattle.std.proofs.Common.{◌*◌, length-drop, drop, take, take_all, ap, sym, ◌∙◌, arith}
use Rattle.std.proofs.lemmas.List.{take_rest}
use Rattle.ihex_loader.proofs.text.row.Goals as goal

pub returns-then-rest-lt-RECORD-clause-row : goal.returns-then-rest-lt-RECORD-clause-row
returns-then-rest-lt-RECORD-clause-row c =
    let len = length-drop (16 * c.args.n) c.args.bytes.now in
    take_rest c.args.bytes.now (16 * c.args.n) ∙ sym (take_all 16 (drop (16 * c.args.n) c.args.bytes.now) (omega (arith, len)))

pub returns-clause-row : goal.returns-clause-row
returns-clause-row c = ap (take 16) (take_rest c.args.bytes.now (16 * c.args.n))
