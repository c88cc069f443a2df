use Rattle.std.proofs.Common.{◌≡◌, ◌/◌, ◌%◌, sym, ◌∙◌, arith}
use Rattle.avr_decoder.specs.declared.op.Op.TheVariants as op
use Rattle.avr_decoder.proofs.TwoRegisters.{mulsu_at, fmul_at, fmuls_at, fmulsu_at}
use Rattle.avr_decoder.proofs.decoding.short_product.Goals as goal

pub returns-then-word-eq0 : goal.returns-then-word-eq0
returns-then-word-eq0 c =
    (λ i. op.Mulsu (c.short_d-d.ensures i) (c.short_r-r.ensures i)) ∙ sym (mulsu_at c.args.word c.args.next c.if-word-eq6.true c.if-word-eq0.true)

pub returns-else-word-eq0 : goal.returns-else-word-eq0
returns-else-word-eq0 c =
    let set : c.args.word / 8 % 2 ≡ 1 = let clear = c.if-word-eq0.false in omega (arith, clear) in
    (λ i. op.Fmul (c.short_d-d.ensures i) (c.short_r-r.ensures i)) ∙ sym (fmul_at c.args.word c.args.next c.if-word-eq6.true set)

pub returns-then-word-eq0-2 : goal.returns-then-word-eq0-2
returns-then-word-eq0-2 c =
    let upper : c.args.word / 128 ≡ 7 = let all = c.requires in let lower = c.if-word-eq6.false in omega (arith, all, lower) in
    (λ i. op.Fmuls (c.short_d-d.ensures i) (c.short_r-r.ensures i)) ∙ sym (fmuls_at c.args.word c.args.next upper c.if-word-eq0-2.true)

pub returns-else-word-eq0-2 : goal.returns-else-word-eq0-2
returns-else-word-eq0-2 c =
    let upper : c.args.word / 128 ≡ 7 = let all = c.requires in let lower = c.if-word-eq6.false in omega (arith, all, lower) in
    let set : c.args.word / 8 % 2 ≡ 1 = let clear = c.if-word-eq0-2.false in omega (arith, clear) in
    (λ i. op.Fmulsu (c.short_d-d.ensures i) (c.short_r-r.ensures i)) ∙ sym (fmulsu_at c.args.word c.args.next upper set)
