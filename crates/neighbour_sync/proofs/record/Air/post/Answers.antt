use Rattle.std.proofs.Common.{◌≡◌, ℕ, ◌+◌, ◌<◌, sym, subst, arith}
use Rattle.world_core.specs.Sends.{IsSendNumber}
use Rattle.world_core.specs.Posted.{sent_of}
use Rattle.world_core.proofs.Records.{in_nodes, record_after}
use Rattle.neighbour_sync.specs.declared.record.Air.TheInside.{Inside}
use Rattle.world_core.specs.Kept.{epoch}
use Rattle.neighbour_sync.specs.Record.{AirRecord}
use Rattle.neighbour_sync.specs.Held.{record_of}
use Rattle.neighbour_sync.proofs.Keeps.{room_left, held_posted}
use Rattle.neighbour_sync.proofs.record.Air.post.Goals as goal

abbrev before : Inside → AirRecord
before s = record_of s.seat s.floor s.log.sends s.samples.items

pub sent-count-requires : goal.sent-count-requires
sent-count-requires g c =
    let r = before c.self.inside in
    let next : IsSendNumber r.world c.args.number c.args.send = subst (λ (b : AirRecord). IsSendNumber b.world c.args.number c.args.send) (sym c.self.view_is) c.requires.number in
    in_nodes r.world c.args.number c.args.send c.self.invariant.sound.lawful next

pub push-requires-clause-node : goal.push-requires-clause-node
push-requires-clause-node g c =
    let r = before c.self.inside in
    let next : IsSendNumber r.world c.args.number c.args.send = subst (λ (b : AirRecord). IsSendNumber b.world c.args.number c.args.send) (sym c.self.view_is) c.requires.number in
    let lt = in_nodes r.world c.args.number c.args.send c.self.invariant.sound.lawful next in
    let most = c.self.invariant.sound.lawful.topo.ranges.nodes_to in
    omega arith

pub push-requires-clause-after : goal.push-requires-clause-after
push-requires-clause-after g c =
    let r = before c.self.inside in
    let x = c.args.send in
    let here : c.args.number ≡ sent_of r.sent x.node = omega (arith, c.sent-count.ensures, c.if-number-count.false, c.if-count-number.false) in
    let next : IsSendNumber r.world (sent_of r.sent x.node) x = subst (λ (n : ℕ). IsSendNumber r.world n x) here (subst (λ (b : AirRecord). IsSendNumber b.world c.args.number x) (sym c.self.view_is) c.requires.number) in
    record_after r.world r.floor r.sent r.sends r.samples x c.self.invariant.sound.lawful c.self.invariant.sound.recorded next

pub push-requires-clause-room : goal.push-requires-clause-room
push-requires-clause-room g c =
    let r = before c.self.inside in
    let x = c.args.send in
    let here : c.args.number ≡ sent_of r.sent x.node = omega (arith, c.sent-count.ensures, c.if-number-count.false, c.if-count-number.false) in
    let next : IsSendNumber r.world (sent_of r.sent x.node) x = subst (λ (n : ℕ). IsSendNumber r.world n x) here (subst (λ (b : AirRecord). IsSendNumber b.world c.args.number x) (sym c.self.view_is) c.requires.number) in
    let early : x.cycle < r.floor + epoch = subst (λ (b : AirRecord). x.cycle < b.floor + epoch) (sym c.self.view_is) c.requires.early in
    let left = room_left r x c.self.invariant.sound next early in
    let room = c.self.invariant.room in
    omega arith

pub store_sent-requires-clause-node : goal.store_sent-requires-clause-node
store_sent-requires-clause-node g c =
    let r = before c.self.inside in
    let next : IsSendNumber r.world c.args.number c.args.send = subst (λ (b : AirRecord). IsSendNumber b.world c.args.number c.args.send) (sym c.self.view_is) c.requires.number in
    in_nodes r.world c.args.number c.args.send c.self.invariant.sound.lawful next

pub invariant_of-self : goal.invariant_of-self
invariant_of-self g c =
    let f = c.self.inside in
    let r = before f in
    let x = c.args.send in
    let here : c.args.number ≡ sent_of r.sent x.node = omega (arith, c.sent-count.ensures, c.if-number-count.false, c.if-count-number.false) in
    let next : IsSendNumber r.world (sent_of r.sent x.node) x = subst (λ (n : ℕ). IsSendNumber r.world n x) here (subst (λ (b : AirRecord). IsSendNumber b.world c.args.number x) (sym c.self.view_is) c.requires.number) in
    let early : x.cycle < r.floor + epoch = subst (λ (b : AirRecord). x.cycle < b.floor + epoch) (sym c.self.view_is) c.requires.early in
    held_posted f.seat c.store_sent.new.seat f.topo f.log c.push.new.self f.floor f.samples.items x c.self.invariant next early c.store_sent.ensures c.push.ensures
