use Rattle.std.proofs.Common.{◌++◌, ap, sym, ◌∙◌, arith}
use Rattle.std.specs.Prelude.{codes}
use Rattle.avr_disassembler.specs.Text.{operand_text, operands_text}
use Rattle.sim_io.proofs.Behind.{behind}
use Rattle.avr_disassembler.proofs.show.put_operands.Goals as goal

pub returns-in-One-clause-bytes : goal.returns-in-One-clause-bytes
unfolding operands_text
returns-in-One-clause-bytes g c =
    behind _ _ _ c.push_str.ensures.bytes c.put_operand.ensures.bytes ∙ ap (λ o. c.args.out.now.bytes ++ operands_text o) (sym c.in-One.is)

pub returns-in-One-clause-len : goal.returns-in-One-clause-len
returns-in-One-clause-len g c = let last = c.put_operand.ensures.len in let first = c.push_str.ensures.len in omega (arith, last, first)

pub returns-in-Two-clause-bytes : goal.returns-in-Two-clause-bytes
unfolding operands_text
returns-in-Two-clause-bytes g c =
    let first = behind c.args.out.now.bytes (codes " ") (operand_text c.in-Two.a) c.push_str-in-Two.ensures.bytes c.put_operand-in-Two.ensures.bytes in
    let comma = behind c.args.out.now.bytes (codes " " ++ operand_text c.in-Two.a) (codes ", ") first c.push_str-in-Two-2.ensures.bytes in
    behind c.args.out.now.bytes (codes " " ++ operand_text c.in-Two.a ++ codes ", ") (operand_text c.in-Two.b) comma c.put_operand-in-Two-2.ensures.bytes
    ∙ ap (λ o. c.args.out.now.bytes ++ operands_text o) (sym c.in-Two.is)

pub returns-in-Two-clause-len : goal.returns-in-Two-clause-len
returns-in-Two-clause-len g c =
    let last = c.put_operand-in-Two-2.ensures.len in
    let comma = c.push_str-in-Two-2.ensures.len in
    let first = c.put_operand-in-Two.ensures.len in
    let space = c.push_str-in-Two.ensures.len in
    omega (arith, last, comma, first, space)
