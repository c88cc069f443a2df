use Rattle.std.proofs.Common.{◌≡◌, ◌≤◌, ◌<◌, ℕ, ◌+◌, ◌-◌, ◌*◌, false, refl, sym, ap, subst, ◌∙◌, arith}
use Rattle.std.proofs.Math.Nat.{le_of_mul-le-mul_right}
use Rattle.std.specs.Prelude.{slice_index}
use Rattle.node_core.specs.declared.bus.NodeBus.{NodeBus}
use Rattle.data_space.specs.declared.cpu.Cpu.{Cpu}
use Rattle.node_core.specs.declared.pace.countdowns.Countdown.{Countdown}
use Rattle.node_core.specs.declared.pace.countdowns.Lowering.{Lowering}
use Rattle.node_core.specs.declared.machine.Machine.{Machine}
use Rattle.node_core.specs.Pace.Leaps.{lowered, with_counter}
use Rattle.node_core.specs.Pace.Midway.{IsSprinted}
use Rattle.node_core.proofs.Counting.{stands_first}
use Rattle.node_core.proofs.Rounds.{leapt_over, none_at_all}
use Rattle.node_core.proofs.machine.Machine.count_down.Goals as goal

pub returns-then-self-clause-sprinted : goal.returns-then-self-clause-sprinted
returns-then-self-clause-sprinted c = none_at_all c.args.cycle c.args.self.now c.args.self.now c.requires.may refl

pub returns-in_default-clause-sprinted : goal.returns-in_default-clause-sprinted
returns-in_default-clause-sprinted c = none_at_all c.args.cycle c.args.self.now c.countdown.new.self c.requires.may c.countdown.ensures.same

pub returns-clause-sprinted : goal.returns-clause-sprinted
returns-clause-sprinted c =
    let r = c.requires in
    let t : ℕ = c.args.cycle in
    let m : Machine = c.args.self.now in
    let x : Machine = c.countdown.new.self in
    let same : x ≡ m = c.countdown.ensures.same in
    let down : Countdown = c.in-Some.field-0 in
    let l : Lowering = down.lowering in
    let length : ℕ = down.round.length in
    let h = c.in-Some.ensures.lowers in
    let k : ℕ = c.leap_rounds-rounds.result in
    let p = c.leap_rounds-rounds.ensures in
    let within = p.within in
    let most = c.min-most.ensures in
    let spare : c.from.result * length ≡ l.spare * length = ap (λ (n : ℕ). n * length) c.from.ensures in
    let few : k ≤ l.spare = le_of_mul-le-mul_right (let e : k * length ≤ l.spare * length = omega (arith, within, most, spare) in e) h.some in
    let after : ℕ → Cpu = λ j. lowered l j m.cpu m.cpu in
    let value = c.counter-value.ensures in
    let core : c.put_counter.new.core ≡ after k =
    c.put_counter.ensures ∙ ((λ i. with_counter l.low l.high (value.value i - k) x.cpu) ∙ ap (λ (y : Machine). lowered l k y.cpu y.cpu) same) in
    let byte : slice_index m.cpu.r l.low < 256 = subst (λ (y : Machine). slice_index y.cpu.r l.low < 256) same value.byte in
    let there = leapt_over t k length down.round.count m x same r.may (λ i l. r.untold i (omega (arith, l, within, most))) c.if-self.false (λ i l. r.none i (omega (arith, l, within, most)))
    after (stands_first l m.cpu byte) (λ j lt. h.walks j (omega (arith, lt, few))) c.leap_rounds-rounds.new.self p.idle p.state p.clock in
    subst (λ (y : Cpu). IsSprinted t (t + k * length) false m
    (let z : Machine = record x { cpu = y; bus = (let b : NodeBus = record { io = c.leap_rounds-rounds.new.self; sram = x.bus.sram } in b); count = x.count + k * down.round.count } in z)) (sym core) there
