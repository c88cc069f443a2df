use Rattle.std.proofs.Common.{◌∙◌, length, sym, ap, arith}
use Rattle.air_sniffer.proofs.Walks.{held_short}
use Rattle.air_sniffer.proofs.sniffer.Sniffer.feed.Goals as goal

pub hold-requires : goal.hold-requires
hold-requires c =
    let h = held_short c.deref-2.result.now c.deref-3.result.now c.in_ok-frames.at (c.deref-3.ensures.value ∙ sym c.deref-2.ensures.value) c.in_ok-frames.ensures.rest in
    let room = c.self.invariant.1 in
    omega arith

pub invariant_of-self : goal.invariant_of-self
invariant_of-self c =
    let h = held_short c.deref-2.result.now c.deref-3.result.now c.in_ok-frames.at (c.deref-3.ensures.value ∙ sym c.deref-2.ensures.value) c.in_ok-frames.ensures.rest in
    let items = ap length c.hold.ensures.items in
    let capacity = c.hold.ensures.capacity in
    let room = c.self.invariant.1 in
    (omega arith, omega arith)

pub returns-clause-bound : goal.returns-clause-bound
returns-clause-bound c =
    let h = held_short c.deref-2.result.now c.deref-3.result.now c.in_ok-frames.at (c.deref-3.ensures.value ∙ sym c.deref-2.ensures.value) c.in_ok-frames.ensures.rest in
    let items = ap length c.hold.ensures.items in
    omega arith
