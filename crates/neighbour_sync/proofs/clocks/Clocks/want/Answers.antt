use Rattle.std.proofs.Common.{◌≡◌, sym, ◌∙◌, ap, arith}
use Rattle.neighbour_sync.specs.Seats.{ClocksFacts, NodeFacts}
use Rattle.neighbour_sync.proofs.Calls.{may_want}
use Rattle.neighbour_sync.proofs.clocks.Clocks.want.Goals as goal

pub lower-requires : goal.lower-requires
lower-requires g c =
    let w = g.W.World.facts c.self.inside.table.shared.key.value in
    let z = c.self.inside.table.shared.table_id in
    let mine = c.seat.inside.seat.table_id in
    let me = c.seat.inside.seat.me in
    let same : mine ≡ z = ap (λ (a : NodeFacts). a.table) c.seat.view_is ∙ c.requires.table ∙ sym (ap (λ (x : ClocksFacts). x.table) c.self.view_is) in
    let nodes = ap (λ (x : ClocksFacts). x.world.topo.nodes) c.self.view_is in
    may_want w z mine c.seat.inside.seat.id c.self.inside.nodes c.seat.inside.number c.seat.inside.clock c.seat.inside.told me same c.self.invariant c.seat.invariant c.args.node c.want_word-word.result c.args.cycle (omega (arith, c.requires.node)) c.want_word-word.ensures
