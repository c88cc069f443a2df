use Rattle.std.proofs.Common.{◌≡◌, ◌+◌, ◌<◌, ◌≤◌, ℕ, get_or, subst, sym, ◌∙◌, ap, arith}
use Rattle.air_base.specs.Bounds.{LAST_CYCLE}
use Rattle.air_base.specs.declared.air.Send.{Send}
use Rattle.world_core.specs.declared.world.WorldFacts.{WorldFacts}
use Rattle.world_core.specs.Lawful.{IsLawful}
use Rattle.world_core.specs.Sends.{sends_below}
use Rattle.neighbour_sync.specs.Seats.{NodeFacts}
use Rattle.sync_facts.proofs.Counted.{below_next, next_send, below_limit}
use Rattle.sync_facts.proofs.nodes.send_all.Goals as goal

abbrev none : Send
none = record { node = 0; cycle = 0; byte = 0 }

pub post-requires-clause-node : goal.post-requires-clause-node
post-requires-clause-node g c =
    (next_send g.N.Session.world c.args.node.number c.loop-place.place c.args.sends.now none c.requires.sends c.loop-place-test.true).1 ∙ sym c.loop-place.invariant.number

pub post-requires-clause-number : goal.post-requires-clause-number
post-requires-clause-number g c =
    (next_send g.N.Session.world c.args.node.number c.loop-place.place c.args.sends.now none c.requires.sends c.loop-place-test.true).0

pub overflow_add-next : goal.overflow_add-next
overflow_add-next g c =
    let law = subst (λ (w : WorldFacts). IsLawful w) (sym c.requires.world) c.topo.ensures.lawful in
    let most : g.N.Session.world.topo.limit ≤ LAST_CYCLE = law.topo.ranges.limit_to in
    let below : (get_or c.args.sends.now c.loop-place.place none).cycle < g.N.Session.world.topo.limit =
    below_limit g.N.Session.world c.args.node.number c.loop-place.place c.args.sends.now none law c.requires.sends c.loop-place-test.true in
    omega (arith, most, below)

pub raise-requires-clause-within : goal.raise-requires-clause-within
raise-requires-clause-within g c =
    let law = subst (λ (w : WorldFacts). IsLawful w) (sym c.requires.world) c.topo.ensures.lawful in
    let below : (get_or c.args.sends.now c.loop-place.place none).cycle < g.N.Session.world.topo.limit =
    below_limit g.N.Session.world c.args.node.number c.loop-place.place c.args.sends.now none law c.requires.sends c.loop-place-test.true in
    omega (arith, below)

pub raise-requires-clause-told : goal.raise-requires-clause-told
raise-requires-clause-told g c =
    let law = subst (λ (w : WorldFacts). IsLawful w) (sym c.requires.world) c.topo.ensures.lawful in
    let x = get_or c.args.sends.now c.loop-place.place none in
    let next = next_send g.N.Session.world c.args.node.number c.loop-place.place c.args.sends.now none c.requires.sends c.loop-place-test.true in
    let own : x.node ≡ c.post.new.self.number = next.1 ∙ sym (ap (λ (n : NodeFacts). n.number) c.post.ensures.same ∙ c.loop-place.invariant.number) in
    subst (λ (k : ℕ). sends_below g.N.Session.world.sends k (x.cycle + 1) ≤ c.post.new.self.told) own
    (below_next g.N.Session.world c.loop-place.place c.post.new.self.told x law next.0 c.post.ensures.told)
