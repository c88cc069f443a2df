use Rattle.std.proofs.Common.{◌≡◌, ℕ, Option, List, option_map, sym, subst, ◌∙◌}
use Rattle.std.specs.List.{slice_get}
use Rattle.serial_ports.specs.InOrder.{AreInOrder, IsNext}
use Rattle.serial_ports.specs.Script.{StretchBytes}
use Rattle.serial_ports.proofs.InOrder.{next, got}
use Rattle.serial_ports.proofs.in_order.InOrder.next.Goals as goal

pub returns-clause-order : goal.returns-clause-order
returns-clause-order c = subst AreInOrder c.self.view_is c.self.invariant

pub returns-clause-next : goal.returns-clause-next
returns-clause-next c =
    let l = c.args.self.now in
    let first : c.deref.result.now ≡ l = c.deref.ensures.value ∙ c.self.view_is in
    let second : c.deref-2.result.now ≡ l = c.deref-2.ensures.value ∙ c.self.view_is in
    let found = next l c.args.cycle c.count_over.result (returns-clause-order c) (rw (sym second) c.count_over.ensures.point) in
    subst (λ (o : Option StretchBytes). IsNext l c.args.cycle o) (got l c.count_over.result c.get.result (rw (sym first) c.get.ensures.lookup.0) (rw (sym first) c.get.ensures.lookup.1)) found
