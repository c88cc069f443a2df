use Rattle.std.proofs.Common.{◌<◌, ℕ, suc, sym, subst, arith}
use Rattle.data_space.specs.declared.cpu.Cpu.{Cpu}
use Rattle.node_core.specs.declared.machine.Machine.{Machine}
use Rattle.node_core.specs.Pace.Leaps.{IsStillStep, Walk, lowered}
use Rattle.node_core.proofs.Counting.{walk_one}
use Rattle.node_core.proofs.machine.Machine.lower.Goals as goal

pub returns-clause-lowers : goal.returns-clause-lowers
returns-clause-lowers c =
    let m : Machine = c.args.self.now in
    let from : Cpu = c.args.core.now in
    let to : Cpu = c.step_still.new.core in
    let l = c.in-Some.lowering in
    let h = c.in-Some.ensures in
    let n : ℕ = c.step_still.result in
    let length = c.from-length.ensures in
    let taken : 0 < n = omega (arith, length, c.if-length-eq0.false) in
    let byte : n < 256 = c.step_still.type_inv in
    let step : IsStillStep n m from to = c.step_still.ensures.step taken in
    record {
      some = omega (arith, length, taken);
      few = omega (arith, length, taken);
      short = omega (arith, length, byte);
      spare = h.spare;
      walks = λ j lt. (let b : Cpu = lowered l j from from in
          let e : Cpu = lowered l (suc j) from to in
          subst (λ (k : ℕ). Walk m b k 1 e) (sym length) (walk_one m n b e (h.steps m n to c.op-op.ensures step j lt)));
    }
