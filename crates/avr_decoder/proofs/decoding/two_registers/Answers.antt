use Rattle.std.proofs.Common.{sym, ◌∙◌}
use Rattle.avr_decoder.specs.declared.op.Op.TheVariants as op
use Rattle.avr_decoder.proofs.TwoRegisters.{cpse_at, cp_at, sub_at, adc_at, and_at, eor_at, or_at}
use Rattle.avr_decoder.proofs.decoding.two_registers.Goals as goal

pub returns-in-4 : goal.returns-in-4
returns-in-4 c = (λ i. op.Cpse (c.reg_8_4-d.ensures i) (c.reg_9_3_0-r.ensures i)) ∙ sym (cpse_at c.args.word c.args.next c.in-4.is)

pub returns-in-5 : goal.returns-in-5
returns-in-5 c = (λ i. op.Cp (c.reg_8_4-d.ensures i) (c.reg_9_3_0-r.ensures i)) ∙ sym (cp_at c.args.word c.args.next c.in-5.is)

pub returns-in-6 : goal.returns-in-6
returns-in-6 c = (λ i. op.Sub (c.reg_8_4-d.ensures i) (c.reg_9_3_0-r.ensures i)) ∙ sym (sub_at c.args.word c.args.next c.in-6.is)

pub returns-in-7 : goal.returns-in-7
returns-in-7 c = (λ i. op.Adc (c.reg_8_4-d.ensures i) (c.reg_9_3_0-r.ensures i)) ∙ sym (adc_at c.args.word c.args.next c.in-7.is)

pub returns-in-8 : goal.returns-in-8
returns-in-8 c = (λ i. op.And (c.reg_8_4-d.ensures i) (c.reg_9_3_0-r.ensures i)) ∙ sym (and_at c.args.word c.args.next c.in-8.is)

pub returns-in-9 : goal.returns-in-9
returns-in-9 c = (λ i. op.Eor (c.reg_8_4-d.ensures i) (c.reg_9_3_0-r.ensures i)) ∙ sym (eor_at c.args.word c.args.next c.in-9.is)

pub returns-in-10 : goal.returns-in-10
returns-in-10 c = (λ i. op.Or (c.reg_8_4-d.ensures i) (c.reg_9_3_0-r.ensures i)) ∙ sym (or_at c.args.word c.args.next c.in-10.is)
