use Rattle.std.proofs.Common.{◌≤◌, length, refl, ap, arith}
use Rattle.node_runner.specs.Place.{Place}
use Rattle.fleet_threads.specs.declared.member.Member.{Member}
use Rattle.fleet_threads.proofs.Steps.{asked_here, late, has_looked, looked, answered}
use Rattle.fleet_threads.proofs.member.Member.sample.Goals as goal

pub ask-requires-clause-asked : goal.ask-requires-clause-asked
ask-requires-clause-asked g c = asked_here _ _ _ _ _ c.args.self.now c.requires.member c.requires.asking c.cycle-cycle.result c.cycle-cycle.ensures.value

pub ask-requires-clause-floor : goal.ask-requires-clause-floor
ask-requires-clause-floor g c =
    let e = c.cycle-cycle.ensures.value in
    let h : g.N.Session.floor ≤ c.args.self.now.runner.cycle = late _ _ _ _ _ c.args.self.now c.requires.member c.requires.asking in
    omega arith

pub returns-in-Ok-Heard-clause-on : goal.returns-in-Ok-Heard-clause-on
returns-in-Ok-Heard-clause-on g c =
    let looked = has_looked g.N.Session.world c.args.self.now.air c.ask.new.air c.cycle-cycle.result c.ask.result c.ask.ensures.answer in
    let new : Member = record { runner = c.answer.new.self; air = c.ask.new.air; turn = c.args.self.now.turn; gap = c.args.self.now.gap; halted = c.args.self.now.halted } in
    answered _ _ _ _ _ c.args.self.now c.requires.member c.requires.asking new c.answer.ensures.place c.answer.ensures.count looked.number looked.table looked.world looked.told looked.clock refl

pub returns-in-Err-clause-on : goal.returns-in-Err-clause-on
returns-in-Err-clause-on g c =
    let m : Member = c.args.self.now in
    let new : Member = record { runner = m.runner; air = c.ask.new.air; turn = m.turn; gap = m.gap; halted = m.halted } in
    (looked _ _ _ _ _ m c.requires.member new refl refl (has_looked g.N.Session.world m.air c.ask.new.air c.cycle-cycle.result c.ask.result c.ask.ensures.answer), refl)

pub halt-requires : goal.halt-requires
halt-requires g c =
    let m : Member = c.args.self.now in
    let new : Member = record { runner = m.runner; air = c.ask.new.air; turn = m.turn; gap = m.gap; halted = m.halted } in
    looked _ _ _ _ _ m c.requires.member new refl refl (has_looked g.N.Session.world m.air c.ask.new.air c.cycle-cycle.result c.ask.result c.ask.ensures.answer)

pub returns-in-Ok-Halted-clause-on : goal.returns-in-Ok-Halted-clause-on
returns-in-Ok-Halted-clause-on g c = (c.halt.ensures.on.0, ap (λ (p : Place). p.number) c.halt.ensures.on.1)

pub returns-in-Ok-Heard-clause-once : goal.returns-in-Ok-Heard-clause-once
returns-in-Ok-Heard-clause-once g c = c.ask.ensures.once

pub returns-in-Err-clause-once : goal.returns-in-Err-clause-once
returns-in-Err-clause-once g c = c.ask.ensures.once

pub returns-in-Ok-Halted-clause-once : goal.returns-in-Ok-Halted-clause-once
returns-in-Ok-Halted-clause-once g c = λ e. let looks = ap length c.halt.ensures.looks in let once = c.ask.ensures.once e in omega arith
