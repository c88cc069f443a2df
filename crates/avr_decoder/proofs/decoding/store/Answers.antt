use Rattle.std.proofs.Common.{sym, ◌∙◌}
use Rattle.avr_decoder.specs.declared.op.Op.TheVariants as op
use Rattle.avr_decoder.proofs.Stores.{st_z_inc_at, st_z_dec_at, st_y_inc_at, st_y_dec_at, st_x_inc_at, st_x_dec_at}
use Rattle.avr_decoder.proofs.Rows.{of_register}
use Rattle.avr_decoder.proofs.decoding.store.Goals as goal

pub returns-in-1 : goal.returns-in-1
returns-in-1 c = of_register c.args.word 15 op.StZInc c.moving.ensures c.reg_8_4-r.ensures ∙ sym (st_z_inc_at c.args.word c.args.next c.requires c.in-1.is)

pub returns-in-2 : goal.returns-in-2
returns-in-2 c = of_register c.args.word 15 op.StZDec c.moving-in-2.ensures c.reg_8_4-r.ensures ∙ sym (st_z_dec_at c.args.word c.args.next c.requires c.in-2.is)

pub returns-in-9 : goal.returns-in-9
returns-in-9 c = of_register c.args.word 14 op.StYInc c.moving-in-9.ensures c.reg_8_4-r.ensures ∙ sym (st_y_inc_at c.args.word c.args.next c.requires c.in-9.is)

pub returns-in-10 : goal.returns-in-10
returns-in-10 c = of_register c.args.word 14 op.StYDec c.moving-in-10.ensures c.reg_8_4-r.ensures ∙ sym (st_y_dec_at c.args.word c.args.next c.requires c.in-10.is)

pub returns-in-13 : goal.returns-in-13
returns-in-13 c = of_register c.args.word 13 op.StXInc c.moving-in-13.ensures c.reg_8_4-r.ensures ∙ sym (st_x_inc_at c.args.word c.args.next c.requires c.in-13.is)

pub returns-in-14 : goal.returns-in-14
returns-in-14 c = of_register c.args.word 13 op.StXDec c.moving-in-14.ensures c.reg_8_4-r.ensures ∙ sym (st_x_dec_at c.args.word c.args.next c.requires c.in-14.is)
