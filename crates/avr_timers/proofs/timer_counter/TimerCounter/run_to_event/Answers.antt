use Rattle.std.proofs.Common.{◌≡◌, ℕ, Option, IsSome, subst}
use Rattle.avr_timers.specs.First.{First, earlier_of}
use Rattle.avr_timers.specs.Clock.{many}
use Rattle.avr_timers.specs.Timer.{clock, sets}
use Rattle.avr_timers.proofs.Timers.{comes, first-ran}
use Rattle.avr_timers.proofs.timer_counter.TimerCounter.run_to_event.Goals as goal

pub returns-clause-first : goal.returns-clause-first
returns-clause-first c =
    let same : earlier_of (earlier_of (earlier_of (earlier_of c.reaches-tov.result c.reaches-a.result) c.reaches_some-b.result) c.reaches_some-c.result) c.reaches_some-icr.result ≡ c.earlier-4.result = cc in
    subst (λ (o : Option ℕ). First (λ k. sets (many clock k c.args.self.now)) o) same
    (first-ran c.args.self.now c.reaches-tov.result c.reaches-a.result c.reaches_some-b.result c.reaches_some-c.result c.reaches_some-icr.result c.requires.free
    c.reaches-tov.ensures.first c.reaches-a.ensures.first c.reaches_some-b.ensures.first c.reaches_some-c.ensures.first c.reaches_some-icr.ensures.first)

pub returns-clause-found : goal.returns-clause-found
returns-clause-found c =
    let same : earlier_of (earlier_of (earlier_of (earlier_of c.reaches-tov.result c.reaches-a.result) c.reaches_some-b.result) c.reaches_some-c.result) c.reaches_some-icr.result ≡ c.earlier-4.result = cc in
    subst (λ (o : Option ℕ). IsSome o) same
    (comes c.args.self.now c.reaches-tov.result c.reaches-a.result c.reaches_some-b.result c.reaches_some-c.result c.reaches_some-icr.result
    c.reaches-tov.ensures.found c.reaches-a.ensures.found c.reaches_some-icr.ensures.found)
