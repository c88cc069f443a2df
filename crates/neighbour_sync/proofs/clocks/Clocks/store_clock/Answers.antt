use Rattle.std.proofs.Common.{◌≡◌, sym, ◌∙◌, ap, arith}
use Rattle.neighbour_sync.specs.Seats.{ClocksFacts, NodeFacts}
use Rattle.neighbour_sync.proofs.Calls.{may_raise}
use Rattle.neighbour_sync.proofs.clocks.Clocks.store_clock.Goals as goal

pub put-requires : goal.put-requires
put-requires g c =
    let w = g.W.World.facts c.self.inside.table.shared.key.value in
    let z = c.self.inside.table.shared.table_id in
    let mine = c.seat.inside.seat.table_id in
    let me = c.seat.inside.seat.me in
    let same : mine ≡ z = ap (λ (a : NodeFacts). a.table) c.seat.view_is ∙ c.requires.table ∙ sym (ap (λ (x : ClocksFacts). x.table) c.self.view_is) in
    let world : me.0.world ≡ c.args.seat.now.world = ap (λ (a : NodeFacts). a.world) c.seat.view_is in
    let number : c.seat.inside.number ≡ c.args.seat.now.number = ap (λ (a : NodeFacts). a.number) c.seat.view_is in
    let clock : c.seat.inside.clock ≡ c.args.seat.now.clock = ap (λ (a : NodeFacts). a.clock) c.seat.view_is in
    let told : c.seat.inside.told ≡ c.args.seat.now.told = ap (λ (a : NodeFacts). a.told) c.seat.view_is in
    may_raise w z mine c.seat.inside.seat.id c.self.inside.nodes c.seat.inside.number c.seat.inside.clock c.seat.inside.told me same c.self.invariant c.seat.invariant c.clock_word-word.result c.args.clock (omega (arith, c.clock_word-word.ensures, c.number.ensures)) (omega (arith, c.requires.rises)) (rw world c.requires.within) (rw (number, told) (rw world c.requires.told))
