use Rattle.std.proofs.Common.{◌≡◌, None, Some, get_or, sym, subst, ap, ◌∙◌, arith}
use Rattle.serial_ports.specs.Script.{IsByteOf, StretchBytes, stretch_byte}
use Rattle.serial_ports.proofs.ScriptArrivals.{past-more, here-byte, here-arrives, never-byte, never-arrives}
use Rattle.serial_ports.proofs.script.first_byte.Goals as goal

pub loop-stretch-preserved : goal.loop-stretch-preserved
loop-stretch-preserved c =
    let d = c.stretch-item.result in
    let none : stretch_byte (get_or c.args.stretches.now c.loop-stretch.stretch-index d) c.args.cycle ≡ None =
    ap (λ (x : StretchBytes). stretch_byte x c.args.cycle) (sym c.stretch-item.is) ∙ sym c.in_default.ensures.value in
    let law = subst (λ (x : StretchBytes). IsByteOf x c.args.cycle None) c.stretch-item.is c.in_default.ensures.law in
    past-more c.args.stretches.now c.args.cycle c.loop-stretch.stretch-index d c.loop-stretch-test.true none law c.loop-stretch.invariant

pub returns-in-Some-clause-value : goal.returns-in-Some-clause-value
returns-in-Some-clause-value c =
    let d = c.stretch-item.result in
    let some : stretch_byte (get_or c.args.stretches.now c.loop-stretch.stretch-index d) c.args.cycle ≡ Some c.in-Some.byte =
    ap (λ (x : StretchBytes). stretch_byte x c.args.cycle) (sym c.stretch-item.is) ∙ sym c.in-Some.ensures.value in
    sym (here-byte c.args.stretches.now c.args.cycle c.loop-stretch.stretch-index c.in-Some.byte d c.loop-stretch-test.true some c.loop-stretch.invariant)

pub returns-in-Some-clause-law : goal.returns-in-Some-clause-law
returns-in-Some-clause-law c =
    let law = subst (λ (x : StretchBytes). IsByteOf x c.args.cycle (Some c.in-Some.byte)) c.stretch-item.is c.in-Some.ensures.law in
    here-arrives c.args.stretches.now c.args.cycle c.loop-stretch.stretch-index c.in-Some.byte c.stretch-item.result c.loop-stretch-test.true law c.loop-stretch.invariant

pub returns-clause-value : goal.returns-clause-value
returns-clause-value c = sym (never-byte c.args.stretches.now c.args.cycle c.loop-stretch.stretch-index (omega (arith, c.loop-stretch-test.false)) c.loop-stretch.invariant)

pub returns-clause-law : goal.returns-clause-law
returns-clause-law c = never-arrives c.args.stretches.now c.args.cycle c.loop-stretch.stretch-index (omega (arith, c.loop-stretch-test.false)) c.loop-stretch.invariant
