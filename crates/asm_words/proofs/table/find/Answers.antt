use Rattle.std.proofs.Common.{◌≡◌, ap, sym, refl, ◌∙◌, true, false}
use Rattle.std.specs.Str.{bytes_eq}
use Rattle.asm_words.proofs.Tables.{found_here, found_more, found_none}
use Rattle.asm_words.proofs.table.find.Goals as goal

pub loop-word-init : goal.loop-word-init
loop-word-init g c = refl

pub returns-then-eq : goal.returns-then-eq
returns-then-eq g c =
    let named : true ≡ bytes_eq c.args.name.now c.loop-word-item.result.0.now = c.if-eq.ensures ∙ ap (bytes_eq c.args.name.now) c.as_bytes.ensures.value in
    sym (c.loop-word.invariant ∙ found_here c.args.name.now c.args.table.now c.loop-word.word-index c.loop-word-item.result c.loop-word-test.true c.loop-word-item.is named)

pub loop-word-preserved : goal.loop-word-preserved
loop-word-preserved g c =
    let other : false ≡ bytes_eq c.args.name.now c.loop-word-item.result.0.now = c.if-eq.ensures ∙ ap (bytes_eq c.args.name.now) c.as_bytes.ensures.value in
    c.loop-word.invariant ∙ found_more c.args.name.now c.args.table.now c.loop-word.word-index c.loop-word-item.result c.loop-word-test.true c.loop-word-item.is other

pub returns : goal.returns
returns g c = sym (c.loop-word.invariant ∙ found_none c.args.name.now c.args.table.now c.loop-word.word-index c.loop-word-test.false)
