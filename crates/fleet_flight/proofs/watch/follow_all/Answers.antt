use Rattle.std.proofs.Common.{◌-◌, ◌≤◌, subst, arith, rules}
use Rattle.std.specs.List.{All}
use Rattle.world_core.specs.Topology.{Topology, latency_of}
use Rattle.world_core.proofs.Final.{latency_from}
use Rattle.fleet_flight.specs.Shadows.{Goes, ear_of}
use Rattle.fleet_flight.specs.Origin.{Origin}
use Rattle.fleet_flight.specs.declared.shadow.Shadow.{Shadow}
use Rattle.fleet_flight.proofs.Watching.{followed_all, followed_more, followed_none, followed_seen, was_behind}
use Rattle.fleet_flight.proofs.watch.follow_all.Goals as goal

pub loop-k-init : goal.loop-k-init
loop-k-init g c = followed_none (g.B.Begins.origin c.args.from.now) c.args.floor c.args.end c.args.shadows.now.items c.new-changes.result.items (search rules)

pub follow-requires-clause-shadow : goal.follow-requires-clause-shadow
follow-requires-clause-shadow g c =
    let o : Origin = g.B.Begins.origin c.args.from.now in
    let each : All (λ l. 1 ≤ latency_of o.topo l.from l.to) o.topo.links = λ i d l. latency_from o.topo _ _ c.topo-topo.ensures.sound in
    (was_behind o c.args.floor c.args.end c.args.log.now.sends c.requires.held c.requires.begun c.requires.more each c.args.shadows.now.items c.requires.shadows c.loop-k.k c.loop-k.shadows.items c.loop-k.changes.items c.loop-k.changes.items c.loop-k.invariant (omega arith) c.index_mut.result.now c.index_mut.result.now c.index_mut.ensures.value).shadow

pub follow-requires-clause-has : goal.follow-requires-clause-has
follow-requires-clause-has g c =
    let o : Origin = g.B.Begins.origin c.args.from.now in
    let each : All (λ l. 1 ≤ latency_of o.topo l.from l.to) o.topo.links = λ i d l. latency_from o.topo _ _ c.topo-topo.ensures.sound in
    (was_behind o c.args.floor c.args.end c.args.log.now.sends c.requires.held c.requires.begun c.requires.more each c.args.shadows.now.items c.requires.shadows c.loop-k.k c.loop-k.shadows.items c.loop-k.changes.items c.loop-k.changes.items c.loop-k.invariant (omega arith) c.index_mut.result.now c.index_mut.result.now c.index_mut.ensures.value).has

pub loop-k-preserved : goal.loop-k-preserved
loop-k-preserved g c =
    let o : Origin = g.B.Begins.origin c.args.from.now in
    let each : All (λ l. 1 ≤ latency_of o.topo l.from l.to) o.topo.links = λ i d l. latency_from o.topo _ _ c.topo-topo.ensures.sound in
    let v : Shadow = c.index_mut.result.now in
    let w : Shadow = c.follow.new.shadow in
    let e = c.in_ok-follow.ensures in
    let goes = subst (λ (t : Topology). Goes (ear_of t c.args.log.now.sends v.number) c.args.floor (c.args.end - c.args.floor) v c.loop-k.changes.items w c.follow.new.changes.items) c.topo-topo.ensures.value e.goes in
    followed_more o c.args.floor c.args.end c.args.log.now.sends c.requires.held c.requires.begun c.requires.more each c.args.shadows.now.items c.requires.shadows c.loop-k.k c.loop-k.shadows.items c.loop-k.changes.items c.follow.new.changes.items c.loop-k.invariant (omega arith) v w c.index_mut.ensures.value goes e.shadow e.has

pub returns-clause-changes : goal.returns-clause-changes
returns-clause-changes g c =
    let past = c.loop-k-test.false in
    let most = c.loop-k.auto.k-end in
    followed_seen (g.B.Begins.origin c.args.from.now) c.args.floor c.args.end c.args.shadows.now.items c.loop-k.k c.loop-k.shadows.items c.loop-k.changes.items c.loop-k.invariant (omega arith)

pub returns-clause-shadows : goal.returns-clause-shadows
returns-clause-shadows g c =
    let past = c.loop-k-test.false in
    followed_all (g.B.Begins.origin c.args.from.now) c.args.floor c.args.end c.args.shadows.now.items c.loop-k.k c.loop-k.shadows.items c.loop-k.changes.items c.loop-k.invariant (omega arith)
