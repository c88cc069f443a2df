use Rattle.std.proofs.Common.{arith}
use Rattle.avr_timers.proofs.Cycles.{first-next}
use Rattle.avr_timers.specs.Timer.{clock, sets}
use Rattle.avr_timers.proofs.Timers.{sets-blocked, sets-last}
use Rattle.avr_timers.proofs.timer_counter.TimerCounter.clocks_to_event.Goals as goal

pub returns-then-self-clause-first : goal.returns-then-self-clause-first
returns-then-self-clause-first c = (sets-last c.args.self.now c.if-self.true, λ i l. absurd (omega arith))

pub returns-in-Some-clause-first : goal.returns-in-Some-clause-first
returns-in-Some-clause-first c =
    first-next clock sets c.args.self.now c.clock.new.self c.in-Some.w (sets-blocked c.args.self.now c.if-not-self.false c.if-self.false) c.clock.ensures.state c.in-Some.ensures.first
