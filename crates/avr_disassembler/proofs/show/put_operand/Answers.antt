use Rattle.std.proofs.Common.{◌++◌, ap, sym, ◌∙◌, arith}
use Rattle.std.specs.Prelude.{codes, decimal}
use Rattle.avr_disassembler.specs.Text.{operand_text}
use Rattle.sim_io.proofs.Behind.{behind}
use Rattle.avr_disassembler.proofs.show.put_operand.Goals as goal

pub returns-in-Register-clause-bytes : goal.returns-in-Register-clause-bytes
unfolding operand_text
returns-in-Register-clause-bytes g c =
    behind _ _ _ c.push_str.ensures.bytes c.put_decimal.ensures.bytes
    ∙ ap (λ n. c.args.out.now.bytes ++ (codes "r" ++ decimal n)) c.get.ensures.value
    ∙ ap (λ o. c.args.out.now.bytes ++ operand_text o) (sym c.in-Register.is)

pub returns-in-Register-clause-len : goal.returns-in-Register-clause-len
returns-in-Register-clause-len g c =
    let last = c.put_decimal.ensures.len in let first = c.push_str.ensures.len in omega (arith, last, first)

pub returns-in-Byte-clause-bytes : goal.returns-in-Byte-clause-bytes
unfolding operand_text
returns-in-Byte-clause-bytes g c =
    behind _ _ _ c.push_str-in-Byte.ensures.bytes c.put_hex2.ensures.bytes
    ∙ ap (λ o. c.args.out.now.bytes ++ operand_text o) (sym c.in-Byte.is)

pub returns-in-Byte-clause-len : goal.returns-in-Byte-clause-len
returns-in-Byte-clause-len g c =
    let last = c.put_hex2.ensures.len in let first = c.push_str-in-Byte.ensures.len in omega (arith, last, first)

pub returns-in-Address-clause-bytes : goal.returns-in-Address-clause-bytes
unfolding operand_text
returns-in-Address-clause-bytes g c =
    behind _ _ _ c.push_str-in-Address.ensures.bytes c.put_hex4.ensures.bytes
    ∙ ap (λ o. c.args.out.now.bytes ++ operand_text o) (sym c.in-Address.is)

pub returns-in-Address-clause-len : goal.returns-in-Address-clause-len
returns-in-Address-clause-len g c =
    let last = c.put_hex4.ensures.len in let first = c.push_str-in-Address.ensures.len in omega (arith, last, first)

pub returns-in-Number-clause-bytes : goal.returns-in-Number-clause-bytes
unfolding operand_text
returns-in-Number-clause-bytes g c =
    c.put_decimal-in-Number.ensures.bytes
    ∙ ap (λ o. c.args.out.now.bytes ++ operand_text o) (sym c.in-Number.is)

pub returns-in-Number-clause-len : goal.returns-in-Number-clause-len
returns-in-Number-clause-len g c =
    let last = c.put_decimal-in-Number.ensures.len in omega (arith, last)

pub returns-in-Offset-clause-len : goal.returns-in-Offset-clause-len
returns-in-Offset-clause-len g c =
    let last = c.put_distance.ensures.len in omega (arith, last)

pub returns-in-At-clause-bytes : goal.returns-in-At-clause-bytes
unfolding operand_text
returns-in-At-clause-bytes g c =
    c.push_str-in-At.ensures.bytes
    ∙ ap (λ t. c.args.out.now.bytes ++ t) c.pointer_name.ensures.text
    ∙ ap (λ o. c.args.out.now.bytes ++ operand_text o) (sym c.in-At.is)

pub returns-in-At-clause-len : goal.returns-in-At-clause-len
returns-in-At-clause-len g c =
    let last = c.push_str-in-At.ensures.len in let short = c.pointer_name.ensures.short in omega (arith, last, short)

pub returns-in-PastY-clause-bytes : goal.returns-in-PastY-clause-bytes
unfolding operand_text
returns-in-PastY-clause-bytes g c =
    behind _ _ _ c.push_str-in-PastY.ensures.bytes c.put_decimal-in-PastY.ensures.bytes
    ∙ ap (λ o. c.args.out.now.bytes ++ operand_text o) (sym c.in-PastY.is)

pub returns-in-PastY-clause-len : goal.returns-in-PastY-clause-len
returns-in-PastY-clause-len g c =
    let last = c.put_decimal-in-PastY.ensures.len in let first = c.push_str-in-PastY.ensures.len in omega (arith, last, first)

pub returns-in-PastZ-clause-bytes : goal.returns-in-PastZ-clause-bytes
unfolding operand_text
returns-in-PastZ-clause-bytes g c =
    behind _ _ _ c.push_str-in-PastZ.ensures.bytes c.put_decimal-in-PastZ.ensures.bytes
    ∙ ap (λ o. c.args.out.now.bytes ++ operand_text o) (sym c.in-PastZ.is)

pub returns-in-PastZ-clause-len : goal.returns-in-PastZ-clause-len
returns-in-PastZ-clause-len g c =
    let last = c.put_decimal-in-PastZ.ensures.len in let first = c.push_str-in-PastZ.ensures.len in omega (arith, last, first)
