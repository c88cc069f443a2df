use Rattle.std.proofs.Common.{◌≡◌, refl, sym, ap, subst, arith}
use Rattle.data_space.specs.declared.cpu.Cpu.{Cpu}
use Rattle.node_core.specs.declared.machine.Machine.{Machine}
use Rattle.node_core.specs.Pace.Leaps.{Walk}
use Rattle.node_core.proofs.Rounds.{leapt_over, none_at_all}
use Rattle.node_core.proofs.machine.Machine.poll.Goals as goal

pub returns-then-self-clause-sprinted : goal.returns-then-self-clause-sprinted
returns-then-self-clause-sprinted c = none_at_all c.args.cycle c.args.self.now c.args.self.now c.requires.may refl

pub returns-in_default-clause-sprinted : goal.returns-in_default-clause-sprinted
returns-in_default-clause-sprinted c = none_at_all c.args.cycle c.args.self.now c.any_round.new.self c.requires.may c.any_round.ensures.same

pub returns-clause-sprinted : goal.returns-clause-sprinted
returns-clause-sprinted c =
    let r = c.requires in
    let m : Machine = c.args.self.now in
    let x : Machine = c.any_round.new.self in
    let same : x ≡ m = c.any_round.ensures.same in
    let round = c.in-Some.ensures.round in
    let p = c.leap_rounds-rounds.ensures in
    let within = p.within in
    let core : x.cpu ≡ m.cpu = ap (λ (y : Machine). y.cpu) same in
    leapt_over c.args.cycle c.leap_rounds-rounds.result c.in-Some.round.length c.in-Some.round.count m x same r.may (λ i l. r.untold i (omega (arith, l, within))) c.if-self.false
    (λ i l. r.none i (omega (arith, l, within))) (λ j. x.cpu) core
    (λ j l. subst (λ (y : Cpu). Walk m y c.in-Some.round.length c.in-Some.round.count y) (sym core) round.walk)
    c.leap_rounds-rounds.new.self p.idle p.state p.clock
