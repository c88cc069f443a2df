use Rattle.std.proofs.Common.{◌≡◌, ◌<◌, ◌+◌, ℕ, sym, subst, ap, ◌∙◌, arith}
use Rattle.data_space.specs.declared.cpu.Cpu.{Cpu}
use Rattle.node_core.specs.declared.pace.countdowns.Countdown.{Countdown}
use Rattle.node_core.specs.declared.pace.countdowns.Lowering.{Lowering}
use Rattle.node_core.specs.declared.machine.Machine.{Machine}
use Rattle.node_core.specs.Cycle.{op_now}
use Rattle.node_core.specs.Pace.Leaps.{IsCountdown, IsStillStep, with_counter}
use Rattle.node_core.specs.Shown.{shown}
use Rattle.node_core.proofs.Cores.{same_core}
use Rattle.node_core.proofs.Counting.{goes_down, goes_round}
use Rattle.node_core.proofs.machine.Machine.countdown.Goals.{After-from-length}
use Rattle.node_core.proofs.machine.Machine.countdown.Goals as goal

abbrev lasts : After-from-length → Countdown
lasts c = record { lowering = c.in-Some.field-0.lowering; round = record { length = c.loop-count.length + c.from-length.result; count = c.loop-count.count + 1 } }

-- one instruction more
down : (c : After-from-length) → IsCountdown c.args.self.now c.args.self.now.cpu c.step_still-taken.new.core (lasts c)
down c =
    let m : Machine = c.args.self.now in
    let i = c.loop-count.invariant in
    let n : ℕ = c.step_still-taken.result in
    let from : Cpu = c.loop-count.core in
    let to : Cpu = c.step_still-taken.new.core in
    let taken : 0 < n = omega (arith, c.if-taken-eq0.false) in
    let step : IsStillStep n m from to = subst (λ (x : Machine). IsStillStep n x from to) i.same (c.step_still-taken.ensures.step taken) in
    goes_down m from to c.in-Some.field-0.lowering c.loop-count.length c.loop-count.count n c.from-length.result c.from-length.ensures i.lowers step c.step_still-taken.type_inv c.op-op.result
    (c.op-op.ensures ∙ ap (λ (x : Machine). op_now (shown (let y : Machine = record x { cpu = from } in y))) i.same) (c.is_beside.ensures c.if-not-is_beside.false)

pub loop-count-preserved : goal.loop-count-preserved
loop-count-preserved c =
    let i = c.loop-count.invariant in
    let test = c.loop-count-test.true in
    record {
      same = c.step_still-taken.ensures.same ∙ i.same;
      head = i.head;
      low = i.low;
      high = i.high;
      lowers = down (goal.at.loop-count-preserved c).After-from-length;
      turns = omega (arith, test);
    }

pub returns-then-eq-clause-lowers : goal.returns-then-eq-clause-lowers
returns-then-eq-clause-lowers c =
    let m : Machine = c.args.self.now in
    let l : Lowering = c.in-Some.field-0.lowering in
    let to : Cpu = c.step_still-taken.new.core in
    let s = (goal.at.returns-then-eq-clause-lowers c).After-from-length in
    let back : with_counter l.low l.high c.counter.result to ≡ m.cpu = sym c.put_counter.ensures ∙ same_core c.put_counter.new.core m.cpu (sym c.eq.ensures ∙ c.if-eq.true) in
    goes_round m to (lasts s) c.counter.result back (down s)
