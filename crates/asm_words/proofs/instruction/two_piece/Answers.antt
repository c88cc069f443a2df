use Rattle.std.proofs.Common.{◌≡◌, ◌+◌, ◌%◌, Ok, ap, sym, ◌∙◌}
use Rattle.asm_words.specs.Labels.{label_at}
use Rattle.asm_words.specs.Encoded.{checked, part_of, piece, with_parts}
use Rattle.asm_words.proofs.instruction.two_piece.Goals as goal

pub returns-in-Ok-read_operand-clause-value : goal.returns-in-Ok-read_operand-clause-value
returns-in-Ok-read_operand-clause-value c =
    let first : part_of c.args.form.first c.args.a.now c.args.at (label_at c.args.labels.now) ≡ Ok c.in-Ok.p = sym c.read_operand.ensures.value ∙ c.in-Ok.is in
    let second : part_of c.args.form.second c.args.b.now c.args.at (label_at c.args.labels.now) ≡ Ok c.in-Ok-read_operand.q = sym c.read_operand-in-Ok.ensures.value ∙ c.in-Ok-read_operand.is in
    c.checked.ensures.value ∙ (ap (λ s. checked (piece (((c.args.form.opcode + c.in-Ok.p.bits) % 65536 + c.in-Ok-read_operand.q.bits) % 65536) s)) c.second_of.ensures.value ∙ sym (λ i. with_parts c.args.form.opcode (first i) (second i)))
