use Rattle.std.proofs.Common.{sym, ◌∙◌}
use Rattle.avr_decoder.specs.declared.op.Op.TheVariants as op
use Rattle.avr_decoder.proofs.Constants.{cpi_at, sbci_at, subi_at, ori_at, andi_at, ldi_at}
use Rattle.avr_decoder.proofs.decoding.decode.Goals as goal

pub returns-in-3 : goal.returns-in-3
returns-in-3 c = (λ i. op.Cpi (c.upper_d.ensures i) (c.constant.ensures i)) ∙ sym (cpi_at c.args.word c.args.next c.in-3.is)

pub returns-in-4 : goal.returns-in-4
returns-in-4 c = (λ i. op.Sbci (c.upper_d-in-4.ensures i) (c.constant-in-4.ensures i)) ∙ sym (sbci_at c.args.word c.args.next c.in-4.is)

pub returns-in-5 : goal.returns-in-5
returns-in-5 c = (λ i. op.Subi (c.upper_d-in-5.ensures i) (c.constant-in-5.ensures i)) ∙ sym (subi_at c.args.word c.args.next c.in-5.is)

pub returns-in-6 : goal.returns-in-6
returns-in-6 c = (λ i. op.Ori (c.upper_d-in-6.ensures i) (c.constant-in-6.ensures i)) ∙ sym (ori_at c.args.word c.args.next c.in-6.is)

pub returns-in-7 : goal.returns-in-7
returns-in-7 c = (λ i. op.Andi (c.upper_d-in-7.ensures i) (c.constant-in-7.ensures i)) ∙ sym (andi_at c.args.word c.args.next c.in-7.is)

pub returns-in-14 : goal.returns-in-14
returns-in-14 c = (λ i. op.Ldi (c.upper_d-in-14.ensures i) (c.constant-in-14.ensures i)) ∙ sym (ldi_at c.args.word c.args.next c.in-14.is)
