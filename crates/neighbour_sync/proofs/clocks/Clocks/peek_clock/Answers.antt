use Rattle.std.proofs.Common.{◌≡◌, sym, ◌∙◌, ap, arith}
use Rattle.world_core.specs.declared.world.WorldFacts.{WorldFacts}
use Rattle.neighbour_sync.specs.Seats.{ClocksFacts, NodeFacts}
use Rattle.neighbour_sync.proofs.Calls.{may_peek}
use Rattle.neighbour_sync.proofs.clocks.Clocks.peek_clock.Goals as goal

pub get-requires : goal.get-requires
get-requires g c =
    let w = g.W.World.facts c.self.inside.table.shared.key.value in
    let z = c.self.inside.table.shared.table_id in
    let mine = c.seat.inside.seat.table_id in
    let me = c.seat.inside.seat.me in
    let same : mine ≡ z = ap (λ (a : NodeFacts). a.table) c.seat.view_is ∙ c.requires.table ∙ sym (ap (λ (x : ClocksFacts). x.table) c.self.view_is) in
    let world : me.0.world ≡ c.args.seat.now.world = ap (λ (a : NodeFacts). a.world) c.seat.view_is in
    let nodes = ap (λ (x : WorldFacts). x.topo.nodes) world in
    may_peek w z mine c.seat.inside.seat.id c.self.inside.nodes c.seat.inside.number c.seat.inside.clock c.seat.inside.told me same c.self.invariant c.seat.invariant c.args.node c.clock_word.result (omega (arith, c.requires.node)) c.clock_word.ensures
