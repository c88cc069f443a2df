use Rattle.std.proofs.Common.{sym, ◌∙◌}
use Rattle.avr_decoder.specs.declared.op.Op.TheVariants as op
use Rattle.avr_decoder.proofs.Singles.{com_at, neg_at, swap_at, inc_at, asr_at, lsr_at, ror_at, dec_at}
use Rattle.avr_decoder.proofs.decoding.single.Goals as goal

pub returns-in-0 : goal.returns-in-0
returns-in-0 c = (λ i. op.Com (c.reg_8_4-d.ensures i)) ∙ sym (com_at c.args.word c.args.next c.requires c.in-0.is)

pub returns-in-1 : goal.returns-in-1
returns-in-1 c = (λ i. op.Neg (c.reg_8_4-d.ensures i)) ∙ sym (neg_at c.args.word c.args.next c.requires c.in-1.is)

pub returns-in-2 : goal.returns-in-2
returns-in-2 c = (λ i. op.Swap (c.reg_8_4-d.ensures i)) ∙ sym (swap_at c.args.word c.args.next c.requires c.in-2.is)

pub returns-in-3 : goal.returns-in-3
returns-in-3 c = (λ i. op.Inc (c.reg_8_4-d.ensures i)) ∙ sym (inc_at c.args.word c.args.next c.requires c.in-3.is)

pub returns-in-5 : goal.returns-in-5
returns-in-5 c = (λ i. op.Asr (c.reg_8_4-d.ensures i)) ∙ sym (asr_at c.args.word c.args.next c.requires c.in-5.is)

pub returns-in-6 : goal.returns-in-6
returns-in-6 c = (λ i. op.Lsr (c.reg_8_4-d.ensures i)) ∙ sym (lsr_at c.args.word c.args.next c.requires c.in-6.is)

pub returns-in-7 : goal.returns-in-7
returns-in-7 c = (λ i. op.Ror (c.reg_8_4-d.ensures i)) ∙ sym (ror_at c.args.word c.args.next c.requires c.in-7.is)

pub returns-in-10 : goal.returns-in-10
returns-in-10 c = (λ i. op.Dec (c.reg_8_4-d.ensures i)) ∙ sym (dec_at c.args.word c.args.next c.requires c.in-10.is)
