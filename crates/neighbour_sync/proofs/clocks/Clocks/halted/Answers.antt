use Rattle.std.proofs.Common.{◌≡◌, sym, ◌∙◌, ap}
use Rattle.neighbour_sync.specs.Seats.{ClocksFacts, NodeFacts}
use Rattle.neighbour_sync.proofs.Calls.{may_ask}
use Rattle.neighbour_sync.proofs.clocks.Clocks.halted.Goals as goal

pub get-found-requires : goal.get-found-requires
get-found-requires g c =
    let w = g.W.World.facts c.self.inside.table.shared.key.value in
    let z = c.self.inside.table.shared.table_id in
    let mine = c.seat.inside.seat.table_id in
    let me = c.seat.inside.seat.me in
    let same : mine ≡ z = ap (λ (a : NodeFacts). a.table) c.seat.view_is ∙ c.requires ∙ sym (ap (λ (x : ClocksFacts). x.table) c.self.view_is) in
    let world : me.0.world ≡ c.args.seat.now.world = ap (λ (a : NodeFacts). a.world) c.seat.view_is in
    may_ask w z mine c.seat.inside.seat.id c.self.inside.nodes c.seat.inside.number c.seat.inside.clock c.seat.inside.told me same c.self.invariant c.seat.invariant c.halt_word.result c.halt_word.ensures
