use Rattle.std.proofs.Common.{◌≡◌, sym, ◌∙◌, ap, arith}
use Rattle.neighbour_sync.specs.Seats.{ClocksFacts, NodeFacts}
use Rattle.neighbour_sync.proofs.Calls.{may_look, may_clear}
use Rattle.neighbour_sync.proofs.clocks.Clocks.serve.Goals as goal

pub peek-requires : goal.peek-requires
peek-requires g c =
    let w = g.W.World.facts c.self.inside.table.shared.key.value in
    let z = c.self.inside.table.shared.table_id in
    let mine = c.seat.inside.seat.table_id in
    let me = c.seat.inside.seat.me in
    let same : mine ≡ z = ap (λ (a : NodeFacts). a.table) c.seat.view_is ∙ c.requires ∙ sym (ap (λ (x : ClocksFacts). x.table) c.self.view_is) in
    let number : c.seat.inside.number ≡ c.args.seat.now.number = ap (λ (a : NodeFacts). a.number) c.seat.view_is in
    may_look w z mine c.seat.inside.seat.id c.self.inside.nodes c.seat.inside.number c.seat.inside.clock c.seat.inside.told me same c.self.invariant c.seat.invariant c.want_word-word.result (omega (arith, c.want_word-word.ensures, c.number.ensures))

pub put-requires : goal.put-requires
put-requires g c =
    let w = g.W.World.facts c.self.inside.table.shared.key.value in
    let z = c.self.inside.table.shared.table_id in
    let mine = c.seat.inside.seat.table_id in
    let me = c.seat.inside.seat.me in
    let same : mine ≡ z = ap (λ (a : NodeFacts). a.table) c.seat.view_is ∙ c.requires ∙ sym (ap (λ (x : ClocksFacts). x.table) c.self.view_is) in
    let number : c.seat.inside.number ≡ c.args.seat.now.number = ap (λ (a : NodeFacts). a.number) c.seat.view_is in
    may_clear w z mine c.seat.inside.seat.id c.self.inside.nodes c.seat.inside.number c.seat.inside.clock c.seat.inside.told me same c.self.invariant c.seat.invariant c.want_word-word.result _ (omega (arith, c.want_word-word.ensures, c.number.ensures))
