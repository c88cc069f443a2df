use Rattle.std.proofs.Common.{sym, ◌∙◌}
use Rattle.avr_decoder.specs.declared.op.Op.TheVariants as op
use Rattle.avr_decoder.proofs.TwoRegisters.{cpc_at, sbc_at}
use Rattle.avr_decoder.proofs.decoding.carry_or_sum.Goals as goal

pub returns-in-1 : goal.returns-in-1
returns-in-1 c = (λ i. op.Cpc (c.reg_8_4-d.ensures i) (c.reg_9_3_0-r.ensures i)) ∙ sym (cpc_at c.args.word c.args.next c.in-1.is)

pub returns-in-2 : goal.returns-in-2
returns-in-2 c = (λ i. op.Sbc (c.reg_8_4-d.ensures i) (c.reg_9_3_0-r.ensures i)) ∙ sym (sbc_at c.args.word c.args.next c.in-2.is)
