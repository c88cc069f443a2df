use Rattle.std.proofs.Common.{◌≡◌, ℕ, ◌+◌, Bool, true, false, is_some, refl, add-zero, sym, ap, ◌∙◌, subst, arith}
use Rattle.node_core.specs.declared.row.Row.{Row}
use Rattle.air_base.specs.NodeRun.{Timed, Comes}
use Rattle.air_base.proofs.QuietCycles.{comes_none, running_next}
use Rattle.node_core.specs.State.{NodeState}
use Rattle.node_core.specs.Shown.{shown}
use Rattle.node_core.specs.Inside.{IsWhole}
use Rattle.node_core.specs.Cycle.{asks_after, node_kind, sends_after}
use Rattle.node_core.proofs.Until.{rested_there, round}
use Rattle.node_core.proofs.Runs.{begun_comes, rested_comes, whole_between}
use Rattle.node_core.proofs.Strides.{IsOnAir, air_told}
use Rattle.node_core.proofs.Steady.{steady}
use Rattle.node_core.proofs.node.Node.run_until.Goals as goal

pub loop-self-init : goal.loop-self-init
loop-self-init c =
    let i = c.self.inside in
    let calm : i.asking ≡ false = ap (λ (v : Timed NodeState Row). v.asking) c.self.view_is ∙ c.requires.calm in
    let cycle = ap (λ (v : Timed NodeState Row). v.cycle) c.self.view_is in
    let v : Timed NodeState Row = record { cycle = i.cycle; asking = i.asking; state = shown i.machine; rows = i.machine.rows.items } in
    let whole : IsWhole i.cycle false i.machine = subst (λ (b : Bool). IsWhole i.cycle b i.machine) calm c.self.invariant in
    let few = whole.few in
    record {
      within = omega arith;
      calm = calm;
      few = omega (arith, few);
      clock = λ going. whole.clock going ∙ add-zero i.cycle;
      comes = subst (λ (u : Timed NodeState Row). Comes node_kind u i.cycle (shown i.machine) i.machine.rows.items) c.self.view_is (comes_none node_kind v);
      running = λ k l. absurd (omega arith);
    }

pub returns-then-at-cycle : goal.returns-then-at-cycle
returns-then-at-cycle c =
    let i = c.loop-self.self-inside in
    let e = c.rest.ensures in
    let comes = rested_comes c.args.self.now i.cycle c.rest.result (shown i.machine) (shown c.rest.new.self) i.machine.rows.items c.rest.new.self.rows.items c.loop-self.invariant.comes e.rested.quiet e.rested.state e.rested.rows (ap (λ v. v.items) e.rested.same) in (
      record {
        cycle = c.if-at-cycle.true;
        asking = c.loop-self.invariant.calm;
        comes = subst (λ (t : ℕ). Comes node_kind c.args.self.now t (shown c.rest.new.self) c.rest.new.self.rows.items) c.if-at-cycle.true comes;
      },
      ap is_some e.rested.stop,
    )

pub loop-self-preserved : goal.loop-self-preserved
loop-self-preserved c =
    let e = c.rest.ensures in
    let b = c.conclude.ensures in
    let r = round _ _ _ _ _ _ c.loop-self.invariant.comes e.rested c.reserve.ensures.items _ _ _ _ _ _ _ c.stride.ensures.midway b.state b.rows b.air c.in-Quiet.is in
    record {
      within = omega (arith, e.within, c.stride.ensures.within);
      calm = c.loop-self.invariant.calm;
      few = omega (arith, b.count, c.stride.ensures.count);
      clock = λ going. b.clock (sym b.stop ∙ going);
      comes = begun_comes _ _ r.state _ r.rows _ r.comes r.happened.0 r.happened.1 r.after r.told;
      running = running_next node_kind _ _ r.state r.rows steady r.comes r.going;
    }

pub returns-in-Sent : goal.returns-in-Sent
returns-in-Sent c =
    let e = c.rest.ensures in
    let b = c.conclude.ensures in
    let there : ℕ = c.loop-self.self-inside.cycle + c.rest.result + c.stride.result in
    let r = round _ _ _ _ _ _ c.loop-self.invariant.comes e.rested c.reserve.ensures.items _ _ _ _ _ _ _ c.stride.ensures.midway b.state b.rows b.air c.in-Sent.is in (
      omega (arith, e.within, c.stride.ensures.within),
      record {
        state = r.state;
        rows = r.rows;
        comes = r.comes;
        sends = r.happened.1;
        asks = r.happened.0;
        after = λ k. record { cycle = there + 1; asking = c.loop-self.invariant.calm k; state = r.after k; rows = r.told k };
      },
    )

pub returns-in-Asks : goal.returns-in-Asks
returns-in-Asks c =
    let e = c.rest.ensures in
    let b = c.conclude.ensures in
    let there : ℕ = c.loop-self.self-inside.cycle + c.rest.result + c.stride.result in
    let r = round _ _ _ _ _ _ c.loop-self.invariant.comes e.rested c.reserve.ensures.items _ _ _ _ _ _ _ c.stride.ensures.midway b.state b.rows b.air c.in-Asks.is in (
      omega (arith, e.within, c.stride.ensures.within),
      record {
        state = r.state;
        rows = r.rows;
        comes = r.comes;
        asks = r.happened;
        after = λ k. record { cycle = there; asking = true; state = r.after k; rows = r.told k };
      },
    )

pub returns-then-is_err : goal.returns-then-is_err
returns-then-is_err c =
    let e = c.rest.ensures in (
      omega (arith, e.within),
      record {
        cycle = refl;
        asking = c.loop-self.invariant.calm;
        comes = rested_there _ _ _ _ _ _ c.loop-self.invariant.comes e.rested c.reserve.ensures.items;
      },
    )

pub invariant_of-self : goal.invariant_of-self
invariant_of-self c = let i = c.loop-self.invariant in whole_between _ _ _ i.calm i.few i.clock

pub invariant_of-self-2 : goal.invariant_of-self-2
invariant_of-self-2 c = let i = c.loop-self.invariant in whole_between _ _ _ i.calm i.few i.clock

pub invariant_of-self-then-at-cycle : goal.invariant_of-self-then-at-cycle
invariant_of-self-then-at-cycle c =
    let i = c.loop-self.invariant in
    let r = c.rest.ensures.rested in
    whole_between _ _ _ i.calm (omega (arith, i.few, r.count)) (λ going. r.clock)

pub invariant_of-self-then-is_err : goal.invariant_of-self-then-is_err
invariant_of-self-then-is_err c =
    let i = c.loop-self.invariant in
    let r = c.rest.ensures.rested in
    whole_between _ _ _ i.calm (omega (arith, i.few, r.count)) (λ going. r.clock)

pub invariant_of-self-in-Sent : goal.invariant_of-self-in-Sent
invariant_of-self-in-Sent c =
    let b = c.conclude.ensures in
    whole_between _ _ _ c.loop-self.invariant.calm (omega (arith, b.count, c.stride.ensures.count)) (λ going. b.clock (sym b.stop ∙ going))

pub invariant_of-self-in-Asks : goal.invariant_of-self-in-Asks
invariant_of-self-in-Asks c =
    let b = c.conclude.ensures in
    let t : ℕ = c.loop-self.self-inside.cycle + c.rest.result + c.stride.result in
    let u : NodeState = shown c.stride.new.self in
    let asks = subst (λ a. IsOnAir (asks_after t u) (sends_after t u) a) (sym b.air ∙ c.in-Asks.is) (air_told t u) in
    record {
      few = omega (arith, b.count, c.stride.ensures.count);
      clock = λ going. b.clock (sym b.stop ∙ going);
      early = λ e. omega (arith, c.rest.ensures.within, c.stride.ensures.within, c.requires.early);
      room = λ e. b.room;
      waits = λ e. b.waits asks;
    }

pub returns-then-is_some : goal.returns-then-is_some
returns-then-is_some c =
    let i = c.loop-self.invariant in (
      i.within,
      record {
        rests = record { cycle = refl; asking = i.calm; comes = i.comes };
        stopped = sym c.is_some.ensures ∙ c.if-is_some.true;
        running = i.running;
      },
    )
