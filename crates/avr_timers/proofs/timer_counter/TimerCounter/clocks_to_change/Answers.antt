use Rattle.std.proofs.Common.{sym, ap, ◌∙◌, arith}
use Rattle.avr_timers.proofs.Cycles.{first-next, many-zero, never-next}
use Rattle.avr_timers.specs.Timer.{changes, clock}
use Rattle.avr_timers.proofs.timer_counter.TimerCounter.clocks_to_change.Goals as goal

pub returns-then-changes-clause-first : goal.returns-then-changes-clause-first
returns-then-changes-clause-first c = (ap changes (many-zero clock c.args.self.now) ∙ sym c.if-changes.ensures, λ i l. absurd (omega arith))

pub returns-in-Some-clause-first : goal.returns-in-Some-clause-first
returns-in-Some-clause-first c = first-next clock changes c.args.self.now c.clock.new.self c.in-Some.w (sym c.if-changes.ensures) c.clock.ensures.state c.in-Some.ensures.first

pub returns-in-None-clause-first : goal.returns-in-None-clause-first
returns-in-None-clause-first c = never-next clock changes c.args.self.now c.clock.new.self (sym c.if-changes.ensures) c.clock.ensures.state c.in-None.ensures.first
