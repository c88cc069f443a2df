use Rattle.avr_timers.proofs.Timers.{ran-from, count_at-from}
use Rattle.avr_timers.proofs.timer_counter.TimerCounter.run.Goals as goal

pub returns-clause-state : goal.returns-clause-state
returns-clause-state c =
    ran-from c.args.self.now c.args.clocks c.count_after-self.result
    c.reaches-tov.result c.reaches-a.result c.reaches_some-b.result c.reaches_some-c.result c.reaches_some-icr.result
    c.flag_after.result c.flag_after-2.result c.flag_after-3.result c.flag_after-4.result c.flag_after-5.result c.requires.free
    c.reaches-tov.ensures.first c.reaches-a.ensures.first c.reaches_some-b.ensures.first c.reaches_some-c.ensures.first c.reaches_some-icr.ensures.first
    (count_at-from c.args.self.now c.top.result c.args.clocks c.count_after-self.result c.top.ensures c.count_after-self.ensures.value)
    c.flag_after.ensures c.flag_after-2.ensures c.flag_after-3.ensures c.flag_after-4.ensures c.flag_after-5.ensures
