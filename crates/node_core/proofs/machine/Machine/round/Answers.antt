use Rattle.std.proofs.Common.{◌≡◌, ◌<◌, ◌+◌, ℕ, refl, sym, subst, ap, ◌∙◌, arith}
use Rattle.data_space.specs.declared.cpu.Cpu.{Cpu}
use Rattle.node_core.specs.declared.machine.Machine.{Machine}
use Rattle.node_core.specs.Pace.Leaps.{IsStillStep, Walk, goes, stays}
use Rattle.node_core.proofs.Cores.{same_core}
use Rattle.node_core.proofs.machine.Machine.round.Goals.{Else-taken-eq0}
use Rattle.node_core.proofs.machine.Machine.round.Goals as goal

-- a step takes the walk on
walked : (c : Else-taken-eq0) → (0 < c.step_still-taken.result) × Walk c.args.self.now c.args.self.now.cpu (c.loop-round.round.length + c.step_still-taken.result) (c.loop-round.round.count + 1) c.step_still-taken.new.core
walked c =
    let i = c.loop-round.invariant in
    let n : ℕ = c.step_still-taken.result in
    let from : Cpu = c.loop-round.core in
    let to : Cpu = c.step_still-taken.new.core in
    let taken : 0 < n = omega (arith, c.if-taken-eq0.false) in
    (taken, goes c.loop-round.round.length c.loop-round.round.count n from to i.walk (subst (λ (x : Machine). IsStillStep n x from to) i.same (c.step_still-taken.ensures.step taken)))

pub loop-round-init : goal.loop-round-init
loop-round-init c = record { same = refl; walk = stays; few = omega arith; bound = omega arith; turns = omega arith }

pub returns-then-eq-clause-round : goal.returns-then-eq-clause-round
returns-then-eq-clause-round c =
    let m : Machine = c.args.self.now in
    let i = c.loop-round.invariant in
    let w = walked (goal.at.returns-then-eq-clause-round c).Else-taken-eq0 in
    let taken = w.0 in
    let back : c.step_still-taken.new.core ≡ m.cpu = same_core c.step_still-taken.new.core c.step_still-taken.new.self.cpu (sym c.eq.ensures ∙ c.if-eq.true) ∙ ap (λ (x : Machine). x.cpu) (c.step_still-taken.ensures.same ∙ i.same) in
    let same = c.from.ensures in
    let few = i.few in
    record {
      some = omega (arith, same, taken);
      few = omega (arith, few, same, taken);
      walk = subst (λ (k : ℕ). Walk m m.cpu (c.loop-round.round.length + k) (c.loop-round.round.count + 1) m.cpu) (sym same)
          (subst (λ (x : Cpu). Walk m m.cpu (c.loop-round.round.length + c.step_still-taken.result) (c.loop-round.round.count + 1) x) back w.1);
    }

pub loop-round-preserved : goal.loop-round-preserved
loop-round-preserved c =
    let m : Machine = c.args.self.now in
    let i = c.loop-round.invariant in
    let w = walked (goal.at.loop-round-preserved c).Else-taken-eq0 in
    let taken = w.0 in
    let same = c.from.ensures in
    let few = i.few in
    let bound = i.bound in
    let fits : c.step_still-taken.result < 256 = c.step_still-taken.type_inv in
    let test = c.loop-round-test.true in
    record {
      same = c.step_still-taken.ensures.same ∙ i.same;
      walk = subst (λ (k : ℕ). Walk m m.cpu (c.loop-round.round.length + k) (c.loop-round.round.count + 1) c.step_still-taken.new.core) (sym same) w.1;
      few = omega (arith, few, same, taken);
      bound = omega (arith, bound, same, fits);
      turns = omega (arith, test);
    }
