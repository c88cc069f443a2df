use Rattle.std.proofs.Common.{◌≡◌, ◌≤◌, max, refl, ap, rules, arith}
use Rattle.neighbour_sync.specs.Seats.{NodeFacts}
use Rattle.fleet_threads.specs.declared.member.Member.{Member}
use Rattle.fleet_threads.specs.Member.{word_of}
use Rattle.fleet_threads.proofs.Steps.{passed_raised, told_passed, word_within, raised}
use Rattle.fleet_threads.proofs.member.Member.raise.Goals as goal

pub raise-requires-clause-told : goal.raise-requires-clause-told
raise-requires-clause-told g c =
    let e : c.max-clock.result ≡ max (word_of c.args.epoch.now.end c.args.self.now.runner) c.args.self.now.air.clock = search rules in
    told_passed _ _ _ _ _ c.args.self.now c.requires _ (passed_raised _ _ _ _ _ c.args.self.now c.requires _ e)

pub returns-clause-member : goal.returns-clause-member
returns-clause-member g c =
    let old : Member = c.args.self.now in
    let e : c.max-clock.result ≡ max (word_of c.args.epoch.now.end old.runner) old.air.clock = search rules in
    let new : Member = record { runner = old.runner; air = c.raise.new.self; turn = old.turn; gap = old.gap; halted = old.halted } in
    let within = word_within _ _ _ _ _ old c.requires in
    let clock = c.requires.clock in
    let le : c.max-clock.result ≤ c.args.epoch.now.end = omega arith in
    raised _ _ _ _ _ old c.requires new c.max-clock.result refl refl c.raise.ensures le (passed_raised _ _ _ _ _ old c.requires _ e)

pub returns-clause-looks : goal.returns-clause-looks
returns-clause-looks g c = ap (λ (a : NodeFacts). a.halts) c.raise.ensures
