use Rattle.std.proofs.Common.{◌≡◌, ◌-◌, ◌<◌, sym, ap, ◌∙◌, arith}
use Rattle.avr_timers.specs.Clock.{many}
use Rattle.avr_timers.proofs.Cycles.{many-after, many-zero}
use Rattle.avr_timers.specs.Timer.{clock}
use Rattle.avr_timers.proofs.timer_counter.TimerCounter.clock_times.Goals as goal

pub returns-then-clocks-eq0-clause-state : goal.returns-then-clocks-eq0-clause-state
returns-then-clocks-eq0-clause-state c = sym (ap (λ k. many clock k c.args.self.now) c.if-clocks-eq0.true ∙ many-zero clock c.args.self.now)

pub returns-then-clocks-gt1-2-clause-state : goal.returns-then-clocks-gt1-2-clause-state
returns-then-clocks-gt1-2-clause-state c =
    let some : 0 < c.args.clocks = omega (arith, c.if-clocks-gt1-2.true) in
    c.run-then-clocks-gt1-2.ensures.state ∙ (ap (many clock (c.args.clocks - 1)) c.clock.ensures.state ∙ many-after clock c.args.clocks c.args.self.now some)

pub returns-else-clocks-gt1-2-clause-state : goal.returns-else-clocks-gt1-2-clause-state
returns-else-clocks-gt1-2-clause-state c =
    let x = c.args.self.now in
    let none : 0 ≡ c.args.clocks - 1 = omega (arith, c.if-clocks-gt1-2.false, c.if-clocks-eq0.false) in
    let some : 0 < c.args.clocks = omega (arith, c.if-clocks-eq0.false) in
    c.clock.ensures.state ∙ (sym (many-zero clock (clock x)) ∙ (ap (λ k. many clock k (clock x)) none ∙ many-after clock c.args.clocks x some))
