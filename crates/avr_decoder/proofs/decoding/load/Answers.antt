use Rattle.std.proofs.Common.{sym, ◌∙◌}
use Rattle.avr_decoder.specs.declared.op.Op.TheVariants as op
use Rattle.avr_decoder.proofs.Loads.{ld_z_inc_at, ld_z_dec_at, lpm_z_inc_at, elpm_z_inc_at, ld_y_inc_at, ld_y_dec_at, ld_x_dec_at}
use Rattle.avr_decoder.proofs.Rows.{of_register}
use Rattle.avr_decoder.proofs.decoding.load.Goals as goal

pub returns-in-1 : goal.returns-in-1
returns-in-1 c = of_register c.args.word 15 op.LdZInc c.moving.ensures c.reg_8_4-d.ensures ∙ sym (ld_z_inc_at c.args.word c.args.next c.requires c.in-1.is)

pub returns-in-2 : goal.returns-in-2
returns-in-2 c = of_register c.args.word 15 op.LdZDec c.moving-in-2.ensures c.reg_8_4-d.ensures ∙ sym (ld_z_dec_at c.args.word c.args.next c.requires c.in-2.is)

pub returns-in-5 : goal.returns-in-5
returns-in-5 c = of_register c.args.word 15 op.LpmZInc c.moving-in-5.ensures c.reg_8_4-d.ensures ∙ sym (lpm_z_inc_at c.args.word c.args.next c.requires c.in-5.is)

pub returns-in-7 : goal.returns-in-7
returns-in-7 c = of_register c.args.word 15 op.ElpmZInc c.moving-in-7.ensures c.reg_8_4-d.ensures ∙ sym (elpm_z_inc_at c.args.word c.args.next c.requires c.in-7.is)

pub returns-in-9 : goal.returns-in-9
returns-in-9 c = of_register c.args.word 14 op.LdYInc c.moving-in-9.ensures c.reg_8_4-d.ensures ∙ sym (ld_y_inc_at c.args.word c.args.next c.requires c.in-9.is)

pub returns-in-10 : goal.returns-in-10
returns-in-10 c = of_register c.args.word 14 op.LdYDec c.moving-in-10.ensures c.reg_8_4-d.ensures ∙ sym (ld_y_dec_at c.args.word c.args.next c.requires c.in-10.is)

-- (`returns-in-13` goes by the search: an edit takes its call of `moving` away)
pub returns-in-14 : goal.returns-in-14
returns-in-14 c = of_register c.args.word 13 op.LdXDec c.moving-in-14.ensures c.reg_8_4-d.ensures ∙ sym (ld_x_dec_at c.args.word c.args.next c.requires c.in-14.is)
