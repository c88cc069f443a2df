use Rattle.std.proofs.Common.{◌≡◌, ◌<◌, ℕ, ◌+◌, None, get_or, is_some, true, sym, ap, ◌∙◌}
use Rattle.serial_ports.specs.Script.{StretchBytes, stretch_byte}
use Rattle.serial_ports.proofs.ScriptArrivals.{calm-none, calm-more}
use Rattle.serial_ports.proofs.script.quiet.Goals as goal

pub loop-stretch-init : goal.loop-stretch-init
loop-stretch-init c = calm-none c.args.cycle c.args.most

pub loop-stretch-preserved : goal.loop-stretch-preserved
loop-stretch-preserved c =
    let d = c.stretch-item.result in
    let item = get_or c.args.stretches.now c.loop-stretch.stretch-index d in
    let none : (j : ℕ) → j < c.quiet-quiet.result → stretch_byte item (c.args.cycle + j) ≡ None =
    λ j l. ap (λ (x : StretchBytes). stretch_byte x (c.args.cycle + j)) (sym c.stretch-item.is) ∙ c.quiet-quiet.ensures.none j l in
    let some : c.quiet-quiet.result < c.loop-stretch.quiet → is_some (stretch_byte item (c.args.cycle + c.quiet-quiet.result)) ≡ true =
    λ l. ap (λ (x : StretchBytes). is_some (stretch_byte x (c.args.cycle + c.quiet-quiet.result))) (sym c.stretch-item.is) ∙ c.quiet-quiet.ensures.first l in
    calm-more c.args.stretches.now c.args.cycle c.args.most c.loop-stretch.quiet c.quiet-quiet.result c.loop-stretch.stretch-index d c.loop-stretch-test.true c.quiet-quiet.ensures.within none some c.loop-stretch.invariant
