use Rattle.std.proofs.Common.{◌≡◌, ◌≤◌, ◌+◌, ℕ, length, get_or, take, sym, subst, ap, ◌∙◌, arith}
use Rattle.std.proofs.lemmas.List.{take_all}
use Rattle.serial_ports.specs.InOrder.{AreInOrder, behind}
use Rattle.serial_ports.specs.Script.{StretchBytes}
use Rattle.serial_ports.proofs.InOrder.{AreUpTo, up-none, up-more}
use Rattle.serial_ports.proofs.in_order.are_in_order.Goals as goal

pub loop-stretch-init : goal.loop-stretch-init
loop-stretch-init c = up-none

pub loop-stretch-preserved : goal.loop-stretch-preserved
loop-stretch-preserved c =
    let d = c.stretch-item.result in
    let l = c.args.stretches.now in
    let i = c.loop-stretch.stretch-index in
    let item : StretchBytes = get_or l i d in
    let begins = c.begins_by.ensures.begins c.if-not-begins_by.false in
    let some : 1 ≤ item.every = subst (λ (x : StretchBytes). 1 ≤ x.every) c.stretch-item.is c.begins_by.ensures.some in
    let from : c.loop-stretch.from ≤ item.at = subst (λ (x : StretchBytes). c.loop-stretch.from ≤ x.at) c.stretch-item.is begins.0 in
    let byte : 1 ≤ length item.bytes = subst (λ (x : StretchBytes). 1 ≤ length x.bytes) c.stretch-item.is begins.1 in
    let same = ap behind c.stretch-item.is in
    let all = up-more l i d c.loop-stretch.from c.loop-stretch-test.true some from byte c.loop-stretch.invariant in
    subst (λ (n : ℕ). AreUpTo (take (i + 1) l) n) (sym (c.behind-from.ensures ∙ same)) all

pub returns : goal.returns
returns c = λ e. subst AreInOrder (take_all c.loop-stretch.stretch-index c.args.stretches.now c.loop-stretch-test.false) c.loop-stretch.invariant.order
