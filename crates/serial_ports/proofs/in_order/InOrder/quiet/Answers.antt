use Rattle.std.proofs.Common.{◌≡◌, ◌≤◌, ◌<◌, ◌+◌, ℕ, Option, Some, None, is_some, true, refl, sym, subst, ap, ◌∙◌, arith}
use Rattle.serial_ports.specs.InOrder.{IsNext}
use Rattle.serial_ports.proofs.InOrder.{calm-within, some-within}
use Rattle.serial_ports.proofs.in_order.InOrder.quiet.Goals as goal

pub returns-in-Some-clause-none : goal.returns-in-Some-clause-none
returns-in-Some-clause-none c =
    let next : IsNext c.args.self.now c.args.cycle (Some c.in-Some.stretch.now) = c.in-Some.ensures.next in
    λ i l. next.3 (c.args.cycle + i) (omega arith) (calm-within c.in-Some.stretch.now c.args.cycle c.quiet.result next.0 next.1 next.2 c.quiet.ensures.none i l) ∙ c.quiet.ensures.none i l

pub returns-in-Some-clause-first : goal.returns-in-Some-clause-first
returns-in-Some-clause-first c =
    let next : IsNext c.args.self.now c.args.cycle (Some c.in-Some.stretch.now) = c.in-Some.ensures.next in
    λ l. (let some = c.quiet.ensures.first l in
    ap is_some (next.3 (c.args.cycle + c.quiet.result) (omega arith) (some-within c.in-Some.stretch.now (c.args.cycle + c.quiet.result) next.0 some)) ∙ some)

pub returns-in-None-clause-none : goal.returns-in-None-clause-none
returns-in-None-clause-none c =
    let next : IsNext c.args.self.now c.args.cycle None = c.in-None.ensures.next in
    λ i l. next (c.args.cycle + i) (omega arith)
