use Rattle.std.proofs.Common.{sym, ◌∙◌, arith}
use Rattle.avr_timers.proofs.Cycles.{first-cycle, never-cycle}
use Rattle.avr_timers.specs.Timer.{changes, clock, divider}
use Rattle.avr_timers.proofs.Timers.{changes-halted, keeps}
use Rattle.avr_timers.proofs.timer_counter.TimerCounter.next_change.Goals as goal

pub returns-then-d-eq0-clause-never : goal.returns-then-d-eq0-clause-never
returns-then-d-eq0-clause-never c = λ i. changes-halted c.args.cycle i c.args.self.now (sym c.divider-d.ensures.value ∙ c.if-d-eq0.true)

pub returns-in-Some-clause-first : goal.returns-in-Some-clause-first
returns-in-Some-clause-first c = first-cycle divider clock keeps changes c.args.cycle c.divider-d.result c.in-Some.w c.cycle_of_clock.result c.args.self.now (sym c.divider-d.ensures.value) (omega arith) c.cycle_of_clock.ensures.value c.cycle_of_clock.ensures.later c.in-Some.ensures.first

pub returns-in-None-clause-never : goal.returns-in-None-clause-never
returns-in-None-clause-never c = λ i. never-cycle divider clock keeps changes c.args.cycle c.divider-d.result i c.args.self.now (sym c.divider-d.ensures.value) (omega arith) c.in-None.ensures.first
