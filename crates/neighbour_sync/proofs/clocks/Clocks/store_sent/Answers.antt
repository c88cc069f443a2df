use Rattle.std.proofs.Common.{◌≡◌, ℕ, ◌<◌, ◌+◌, List, length, sym, ◌∙◌, ap, arith, subst}
use Rattle.world_core.specs.declared.world.WorldFacts.{WorldFacts}
use Rattle.world_core.specs.Sends.{sends_of}
use Rattle.world_core.specs.Posted.{sent_of}
use Rattle.world_core.specs.Lawful.{IsLawful}
use Rattle.world_core.proofs.Records.{few_sends}
use Rattle.neighbour_sync.specs.Seats.{ClocksFacts, AirFacts}
use Rattle.neighbour_sync.proofs.Calls.{may_store_sent}
use Rattle.neighbour_sync.proofs.clocks.Clocks.store_sent.Goals as goal

pub put-requires : goal.put-requires
put-requires g c =
    let w = g.W.World.facts c.self.inside.table.shared.key.value in
    let z = c.self.inside.table.shared.table_id in
    let mine = c.seat.inside.seat.table_id in
    let me = c.seat.inside.seat.me in
    let same : mine ≡ z = ap (λ (a : AirFacts). a.table) c.seat.view_is ∙ c.requires.table ∙ sym (ap (λ (x : ClocksFacts). x.table) c.self.view_is) in
    let world : me.0.world ≡ c.args.seat.now.world = ap (λ (a : AirFacts). a.world) c.seat.view_is in
    let nodes = ap (λ (x : WorldFacts). x.topo.nodes) world in
    let list : c.seat.inside.sent.items ≡ c.args.seat.now.sent = ap (λ (a : AirFacts). a.sent) c.seat.view_is in
    let further : sent_of c.seat.inside.sent.items c.args.node < length (sends_of c.args.node me.0.world.sends) = rw list (rw world c.requires.further) in
    may_store_sent w z mine c.seat.inside.seat.id c.self.inside.nodes c.args.node c.sent_word-word.result (c.sent-count.result + 1) me c.seat.inside.sent.items same c.self.invariant c.seat.invariant (omega (arith, c.requires.node)) further c.sent_word-word.ensures (ap (λ (n : ℕ). n + 1) (c.sent-count.ensures ∙ ap (λ (l : List ℕ). sent_of l c.args.node) (sym list)))

pub overflow_add-count : goal.overflow_add-count
overflow_add-count g c =
    let world : c.seat.inside.seat.me.0.world ≡ c.args.seat.now.world = ap (λ (a : AirFacts). a.world) c.seat.view_is in
    let lawful : IsLawful c.args.seat.now.world = subst IsLawful world c.seat.invariant.lawful in
    let few = few_sends c.args.seat.now.world c.args.node lawful in
    omega (arith, c.sent-count.ensures, c.requires.further)
