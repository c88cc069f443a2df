use Rattle.std.proofs.Common.{sym, ◌∙◌}
use Rattle.avr_decoder.specs.declared.op.Op.TheVariants as op
use Rattle.avr_decoder.proofs.Words.{adiw_at, sbiw_at, cbi_at, sbic_at, sbi_at, sbis_at}
use Rattle.avr_decoder.proofs.decoding.page_9.Goals as goal

pub returns-in-150 : goal.returns-in-150
returns-in-150 c = (λ i. op.Adiw (c.word_pair.ensures i) (c.short_constant.ensures i)) ∙ sym (adiw_at c.args.word c.args.next c.in-150.is)

pub returns-in-151 : goal.returns-in-151
returns-in-151 c = (λ i. op.Sbiw (c.word_pair-in-151.ensures i) (c.short_constant-in-151.ensures i)) ∙ sym (sbiw_at c.args.word c.args.next c.in-151.is)

pub returns-in-152 : goal.returns-in-152
returns-in-152 c = (λ i. op.Cbi (c.low_address.ensures i) (c.low_three.ensures i)) ∙ sym (cbi_at c.args.word c.args.next c.in-152.is)

pub returns-in-153 : goal.returns-in-153
returns-in-153 c = (λ i. op.Sbic (c.low_address-in-153.ensures i) (c.low_three-in-153.ensures i)) ∙ sym (sbic_at c.args.word c.args.next c.in-153.is)

pub returns-in-154 : goal.returns-in-154
returns-in-154 c = (λ i. op.Sbi (c.low_address-in-154.ensures i) (c.low_three-in-154.ensures i)) ∙ sym (sbi_at c.args.word c.args.next c.in-154.is)

pub returns-in-155 : goal.returns-in-155
returns-in-155 c = (λ i. op.Sbis (c.low_address-in-155.ensures i) (c.low_three-in-155.ensures i)) ∙ sym (sbis_at c.args.word c.args.next c.in-155.is)
