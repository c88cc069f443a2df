use Rattle.std.proofs.Common.{◌++◌, ap, sym, ◌∙◌, arith}
use Rattle.std.specs.Prelude.{codes}
use Rattle.sim_io.specs.Digits.{hex2, hex4}
use Rattle.changes_text.specs.Line.{seen_text}
use Rattle.sim_io.proofs.Behind.{behind}
use Rattle.changes_text.proofs.line.put_seen.Goals as goal

pub returns-in-Byte-clause-bytes : goal.returns-in-Byte-clause-bytes
unfolding seen_text
returns-in-Byte-clause-bytes g c =
    let e1 = behind c.args.page.now.bytes (codes "byte ") (hex4 c.in-Byte.address) c.push_str.ensures.bytes c.put_hex4.ensures.bytes in
    let e2 = behind c.args.page.now.bytes (codes "byte " ++ hex4 c.in-Byte.address) (codes " ") e1 c.push_str-in-Byte.ensures.bytes in
    behind c.args.page.now.bytes (codes "byte " ++ hex4 c.in-Byte.address ++ codes " ") (hex2 c.in-Byte.byte) e2 c.put_hex2.ensures.bytes
    ∙ ap (λ k. c.args.page.now.bytes ++ seen_text k) (sym c.in-Byte.is)

pub returns-in-Byte-clause-len : goal.returns-in-Byte-clause-len
returns-in-Byte-clause-len g c =
    let l0 = c.push_str.ensures.len in
    let l1 = c.put_hex4.ensures.len in
    let l2 = c.push_str-in-Byte.ensures.len in
    let l3 = c.put_hex2.ensures.len in
    omega (arith, l0, l1, l2, l3)
