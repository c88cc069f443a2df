use Rattle.std.proofs.Common.{◌≡◌, ◌+◌, ◌<◌, length, sym, ap, subst, arith, rules, vec_len}
use Rattle.world_core.specs.Sends.{IsSendNumber}
use Rattle.world_core.specs.Posted.{sent_of}
use Rattle.world_core.specs.Consistent.{AirState}
use Rattle.world_core.proofs.Records.{in_nodes, record_after, record_room, few_sends}
use Rattle.world_core.specs.Chain.{LogFacts}
use Rattle.sync_core.specs.declared.machine.Core.TheInside.{Inside}
use Rattle.sync_core.proofs.Inductive.{count_at, posts_as}
use Rattle.sync_core.proofs.machine.Core.post.Given
use Rattle.sync_core.proofs.machine.Core.post.Goals as goal

abbrev before : (g : Given.Over) → Inside g.row.W.Denot → AirState
before g s = record { world = g.W.World.facts s.world; clocks = s.clocks.items; sent = s.sent.items; floor = 0; sends = s.log.sends; samples = s.samples.items }

pub push-requires-clause-node : goal.push-requires-clause-node
push-requires-clause-node g c =
    let a = before g c.self.inside in
    let x = c.args.send in
    let next : IsSendNumber a.world (sent_of a.sent x.node) x = subst (λ (b : AirState). IsSendNumber b.world (sent_of b.sent x.node) x) (sym c.self.view_is) c.requires in
    let r = in_nodes a.world (sent_of a.sent x.node) x c.self.invariant.0.lawful next in
    let most = c.self.invariant.0.lawful.topo.ranges.nodes_to in omega arith

pub push-requires-clause-after : goal.push-requires-clause-after
push-requires-clause-after g c =
    let a = before g c.self.inside in
    let x = c.args.send in
    let next : IsSendNumber a.world (sent_of a.sent x.node) x = subst (λ (b : AirState). IsSendNumber b.world (sent_of b.sent x.node) x) (sym c.self.view_is) c.requires in
    record_after a.world a.floor a.sent a.sends a.samples x c.self.invariant.0.lawful c.self.invariant.0.recorded next

pub push-requires-clause-room : goal.push-requires-clause-room
push-requires-clause-room g c =
    let a = before g c.self.inside in
    let x = c.args.send in
    let next : IsSendNumber a.world (sent_of a.sent x.node) x = subst (λ (b : AirState). IsSendNumber b.world (sent_of b.sent x.node) x) (sym c.self.view_is) c.requires in
    let r = record_room a.world a.floor a.sent a.sends a.samples x c.self.invariant.0.lawful c.self.invariant.0.recorded next in
    let f = c.self.invariant.1 in omega arith

pub index_mut-requires : goal.index_mut-requires
index_mut-requires g c =
    let a = before g c.self.inside in
    let x = c.args.send in
    let next : IsSendNumber a.world (sent_of a.sent x.node) x = subst (λ (b : AirState). IsSendNumber b.world (sent_of b.sent x.node) x) (sym c.self.view_is) c.requires in
    let r = in_nodes a.world (sent_of a.sent x.node) x c.self.invariant.0.lawful next in
    let n = c.self.invariant.0.recorded.nodes in
    let e : vec_len c.self.inside.sent ≡ length c.self.inside.sent.items = search rules in
    let f = c.from.ensures in omega arith

pub overflow_add-index_mut : goal.overflow_add-index_mut
overflow_add-index_mut g c =
    let a = before g c.self.inside in
    let x = c.args.send in
    let next : IsSendNumber a.world (sent_of a.sent x.node) x = subst (λ (b : AirState). IsSendNumber b.world (sent_of b.sent x.node) x) (sym c.self.view_is) c.requires in
    let lt : x.node < length a.sent = let r = in_nodes a.world (sent_of a.sent x.node) x c.self.invariant.0.lawful next in let n = c.self.invariant.0.recorded.nodes in omega arith in
    let v = count_at a.sent c.from.result x.node c.index_mut.result.now c.from.ensures lt c.index_mut.ensures.value in
    let few = few_sends a.world x.node c.self.invariant.0.lawful in
    let below = next.0 in
    let small : c.index_mut.result.now + 1 < 18446744073709551616 = omega arith in
    search rules

pub invariant_of-self : goal.invariant_of-self
invariant_of-self g c =
    let a = before g c.self.inside in
    let x = c.args.send in
    let next : IsSendNumber a.world (sent_of a.sent x.node) x = subst (λ (b : AirState). IsSendNumber b.world (sent_of b.sent x.node) x) (sym c.self.view_is) c.requires in
    let lt : x.node < length a.sent = let r = in_nodes a.world (sent_of a.sent x.node) x c.self.invariant.0.lawful next in let n = c.self.invariant.0.recorded.nodes in omega arith in
    let v = count_at a.sent c.from.result x.node c.index_mut.result.now c.from.ensures lt c.index_mut.ensures.value in
    (posts_as a x c.from.result c.index_mut.result.now c.push.new.self.sends c.self.invariant.0 next c.from.ensures v (ap (λ (l : LogFacts). l.sends) c.push.ensures), (let r = ap (λ (l : LogFacts). l.room) c.push.ensures in let f = c.self.invariant.1 in omega arith))

pub returns-clause-consistent : goal.returns-clause-consistent
returns-clause-consistent g c =
    let a = before g c.self.inside in
    let x = c.args.send in
    let next : IsSendNumber a.world (sent_of a.sent x.node) x = subst (λ (b : AirState). IsSendNumber b.world (sent_of b.sent x.node) x) (sym c.self.view_is) c.requires in
    let lt : x.node < length a.sent = let r = in_nodes a.world (sent_of a.sent x.node) x c.self.invariant.0.lawful next in let n = c.self.invariant.0.recorded.nodes in omega arith in
    let v = count_at a.sent c.from.result x.node c.index_mut.result.now c.from.ensures lt c.index_mut.ensures.value in
    posts_as a x c.from.result c.index_mut.result.now c.push.new.self.sends c.self.invariant.0 next c.from.ensures v (ap (λ (l : LogFacts). l.sends) c.push.ensures)
