use Rattle.std.proofs.Common.{sym, arith}
use Rattle.avr_timers.proofs.Cycles.{first-cycle}
use Rattle.avr_timers.specs.Timer.{clock, divider, sets}
use Rattle.avr_timers.proofs.Timers.{keeps}
use Rattle.avr_timers.proofs.timer_counter.TimerCounter.next_event.Goals as goal

pub returns-in-Some-clause-first : goal.returns-in-Some-clause-first
returns-in-Some-clause-first c = first-cycle divider clock keeps sets c.args.cycle c.divider-d.result c.in-Some.w c.cycle_of_clock.result c.args.self.now (sym c.divider-d.ensures.value) (omega arith) c.cycle_of_clock.ensures.value c.cycle_of_clock.ensures.later c.in-Some.ensures.first
