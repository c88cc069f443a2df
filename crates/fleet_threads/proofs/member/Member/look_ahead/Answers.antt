use Rattle.std.proofs.Common.{◌≤◌, ◌+◌, max, refl, ap, rules}
use Rattle.neighbour_sync.specs.Seats.{NodeFacts}
use Rattle.fleet_threads.specs.declared.member.Member.{Member}
use Rattle.fleet_threads.proofs.Steps.{passed_ahead, told_passed, raised}
use Rattle.fleet_threads.proofs.member.Member.look_ahead.Goals as goal

pub raise-requires-clause-told : goal.raise-requires-clause-told
raise-requires-clause-told g c =
    let old : Member = c.args.self.now in
    let le : c.max-clock.result ≤ max (c.args.sent + old.gap) old.air.clock = search rules in
    told_passed _ _ _ _ _ old c.requires.member _ (passed_ahead _ _ _ _ _ old c.requires.member _ _ le c.requires.none)

pub returns-clause-on : goal.returns-clause-on
returns-clause-on g c =
    let old : Member = c.args.self.now in
    let le : c.max-clock.result ≤ max (c.args.sent + old.gap) old.air.clock = search rules in
    let clock = c.requires.member.clock in
    let within : c.max-clock.result ≤ c.args.epoch.now.end = search rules in
    let new : Member = record { runner = old.runner; air = c.raise.new.self; turn = old.turn; gap = old.gap; halted = old.halted } in
    (raised _ _ _ _ _ old c.requires.member new c.max-clock.result refl refl c.raise.ensures within (passed_ahead _ _ _ _ _ old c.requires.member _ _ le c.requires.none), refl)

pub returns-clause-looks : goal.returns-clause-looks
returns-clause-looks g c = ap (λ (a : NodeFacts). a.halts) c.raise.ensures
