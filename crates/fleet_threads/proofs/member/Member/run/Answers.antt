use Rattle.std.proofs.Common.{◌≡◌, ◌-◌, ◌∙◌, ap, min, refl}
use Rattle.neighbour_sync.specs.Seats.{NodeFacts}
use Rattle.node_runner.specs.Place.{Place}
use Rattle.fleet_threads.specs.declared.member.Member.{Member}
use Rattle.fleet_threads.proofs.Steps.{turn_of, turned, asks, ended, sent, cut_off, ahead}
use Rattle.fleet_threads.proofs.member.Member.run.Goals as goal

pub look_ahead-requires-clause-none : goal.look_ahead-requires-clause-none
look_ahead-requires-clause-none g c =
    let old : Member = c.args.self.now in
    let new : Member = record { runner = c.note_posted.new.self; air = c.post.new.self; turn = c.saturating_add-self.result; gap = old.gap; halted = old.halted } in
    let few : c.min-quantum.result ≡ min (c.args.epoch.now.end - old.runner.cycle) 1024 = turn_of c.args.epoch.now.end old.runner.cycle c.cycle.result c.min-quantum.result c.cycle.ensures.value c.min-quantum.ensures in
    ahead _ _ _ _ _ old c.requires.member c.requires.live _ c.requires.calm few _ _ c.in-Sent.ensures.event c.in-Sent.ensures.count new c.count-number.result _ c.count-number.ensures c.note_posted.ensures.place c.note_posted.ensures.count c.post.ensures.told c.post.ensures.same refl refl

pub look_ahead-requires-clause-member : goal.look_ahead-requires-clause-member
look_ahead-requires-clause-member g c =
    let old : Member = c.args.self.now in
    let new : Member = record { runner = c.note_posted.new.self; air = c.post.new.self; turn = c.saturating_add-self.result; gap = old.gap; halted = old.halted } in
    let few : c.min-quantum.result ≡ min (c.args.epoch.now.end - old.runner.cycle) 1024 = turn_of c.args.epoch.now.end old.runner.cycle c.cycle.result c.min-quantum.result c.cycle.ensures.value c.min-quantum.ensures in
    (sent _ _ _ _ _ old c.requires.member c.requires.live _ c.requires.calm few _ _ c.in-Sent.ensures.event c.in-Sent.ensures.count new c.count-number.result c.count-number.ensures c.note_posted.ensures.place c.note_posted.ensures.count c.post.ensures.told c.post.ensures.same refl).0

pub halt-requires : goal.halt-requires
halt-requires g c =
    let old : Member = c.args.self.now in
    let new : Member = record { runner = c.event.new.self; air = old.air; turn = c.saturating_add-self.result; gap = old.gap; halted = old.halted } in
    let few : c.min-quantum.result ≡ min (c.args.epoch.now.end - old.runner.cycle) 1024 = turn_of c.args.epoch.now.end old.runner.cycle c.cycle.result c.min-quantum.result c.cycle.ensures.value c.min-quantum.ensures in
    (cut_off _ _ _ _ _ old c.requires.member c.requires.live _ c.requires.calm few new c.in-NoMemory.ensures.event c.in-NoMemory.ensures.count refl refl).0

pub returns-in-Ask-clause-on : goal.returns-in-Ask-clause-on
returns-in-Ask-clause-on g c =
    let old : Member = c.args.self.now in
    let new : Member = record { runner = c.event.new.self; air = old.air; turn = c.saturating_add-self.result; gap = old.gap; halted = old.halted } in
    let few : c.min-quantum.result ≡ min (c.args.epoch.now.end - old.runner.cycle) 1024 = turn_of c.args.epoch.now.end old.runner.cycle c.cycle.result c.min-quantum.result c.cycle.ensures.value c.min-quantum.ensures in
    asks _ _ _ _ _ old c.requires.member c.requires.live _ c.requires.calm few new c.in-Ask.ensures.event c.in-Ask.ensures.count refl refl

pub returns-in-Turn-clause-on : goal.returns-in-Turn-clause-on
returns-in-Turn-clause-on g c =
    let old : Member = c.args.self.now in
    let new : Member = record { runner = c.event.new.self; air = old.air; turn = c.saturating_add-self.result; gap = old.gap; halted = old.halted } in
    let few : c.min-quantum.result ≡ min (c.args.epoch.now.end - old.runner.cycle) 1024 = turn_of c.args.epoch.now.end old.runner.cycle c.cycle.result c.min-quantum.result c.cycle.ensures.value c.min-quantum.ensures in
    turned _ _ _ _ _ old c.requires.member c.requires.live _ c.requires.calm few new _ c.in-Turn.ensures.event c.in-Turn.ensures.count refl refl

pub returns-in-Ended-clause-on : goal.returns-in-Ended-clause-on
returns-in-Ended-clause-on g c =
    let old : Member = c.args.self.now in
    let new : Member = record { runner = c.event.new.self; air = old.air; turn = c.saturating_add-self.result; gap = old.gap; halted = old.halted } in
    let few : c.min-quantum.result ≡ min (c.args.epoch.now.end - old.runner.cycle) 1024 = turn_of c.args.epoch.now.end old.runner.cycle c.cycle.result c.min-quantum.result c.cycle.ensures.value c.min-quantum.ensures in
    ended _ _ _ _ _ old c.requires.member c.requires.live _ c.requires.calm few new c.in-Ended.ensures.event c.in-Ended.ensures.count refl refl

pub returns-in-NoMemory-clause-on : goal.returns-in-NoMemory-clause-on
returns-in-NoMemory-clause-on g c =
    let old : Member = c.args.self.now in
    let new : Member = record { runner = c.event.new.self; air = old.air; turn = c.saturating_add-self.result; gap = old.gap; halted = old.halted } in
    let few : c.min-quantum.result ≡ min (c.args.epoch.now.end - old.runner.cycle) 1024 = turn_of c.args.epoch.now.end old.runner.cycle c.cycle.result c.min-quantum.result c.cycle.ensures.value c.min-quantum.ensures in
    (c.halt.ensures.on.0, ap (λ (p : Place). p.number) c.halt.ensures.on.1 ∙ (cut_off _ _ _ _ _ old c.requires.member c.requires.live _ c.requires.calm few new c.in-NoMemory.ensures.event c.in-NoMemory.ensures.count refl refl).1)

pub returns-in-Sent-clause-on : goal.returns-in-Sent-clause-on
returns-in-Sent-clause-on g c =
    let old : Member = c.args.self.now in
    let new : Member = record { runner = c.note_posted.new.self; air = c.post.new.self; turn = c.saturating_add-self.result; gap = old.gap; halted = old.halted } in
    let few : c.min-quantum.result ≡ min (c.args.epoch.now.end - old.runner.cycle) 1024 = turn_of c.args.epoch.now.end old.runner.cycle c.cycle.result c.min-quantum.result c.cycle.ensures.value c.min-quantum.ensures in
    (c.look_ahead.ensures.on.0, c.look_ahead.ensures.on.1 ∙ (sent _ _ _ _ _ old c.requires.member c.requires.live _ c.requires.calm few _ _ c.in-Sent.ensures.event c.in-Sent.ensures.count new c.count-number.result c.count-number.ensures c.note_posted.ensures.place c.note_posted.ensures.count c.post.ensures.told c.post.ensures.same refl).1)

pub returns-in-Sent-clause-looks : goal.returns-in-Sent-clause-looks
returns-in-Sent-clause-looks g c = c.look_ahead.ensures.looks ∙ ap (λ (a : NodeFacts). a.halts) c.post.ensures.same
