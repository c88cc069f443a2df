use Rattle.std.proofs.Common.{◌≡◌, ◌≤◌, ℕ, Option, Some, None, List, get_or, refl, sym, subst, ap, ◌∙◌, arith}
use Rattle.std.specs.List.{slice_get}
use Rattle.serial_ports.specs.InOrder.{AreInOrder, IsNext}
use Rattle.serial_ports.specs.Script.{StretchBytes, first_byte}
use Rattle.serial_ports.proofs.InOrder.{first-arrives}
use Rattle.serial_ports.proofs.in_order.InOrder.byte_at.Goals as goal

pub returns-in-Some-clause-value : goal.returns-in-Some-clause-value
returns-in-Some-clause-value c =
    let next : IsNext c.args.self.now c.args.cycle (Some c.in-Some.stretch.now) = c.in-Some.ensures.next in
    c.byte_at.ensures.value ∙ sym (next.3 c.args.cycle (omega arith) next.2)

pub returns-in-Some-clause-law : goal.returns-in-Some-clause-law
returns-in-Some-clause-law c =
    first-arrives c.args.self.now c.args.cycle c.byte_at.result (λ i d l. (c.next.ensures.order.some i d l).0) (returns-in-Some-clause-value c)

pub returns-in-None-clause-value : goal.returns-in-None-clause-value
returns-in-None-clause-value c =
    let next : IsNext c.args.self.now c.args.cycle None = c.in-None.ensures.next in
    sym (next c.args.cycle (omega arith))

pub returns-in-None-clause-law : goal.returns-in-None-clause-law
returns-in-None-clause-law c =
    first-arrives c.args.self.now c.args.cycle None (λ i d l. (c.next.ensures.order.some i d l).0) (returns-in-None-clause-value c)
