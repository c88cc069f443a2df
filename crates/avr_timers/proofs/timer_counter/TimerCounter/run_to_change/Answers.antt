use Rattle.std.proofs.Common.{◌≡◌, ◌≤◌, ℕ, if◌then◌else◌, Option, None, IfSome, subst}
use Rattle.avr_timers.specs.First.{First, earlier_of}
use Rattle.avr_timers.specs.Clock.{many}
use Rattle.avr_timers.specs.Timer.{changes, clock}
use Rattle.avr_timers.specs.declared.timer_counter.TimerCounter.{TimerCounter}
use Rattle.avr_timers.proofs.First.{earlier-within, unset-within}
use Rattle.avr_timers.proofs.Timers.{first-changed}
use Rattle.avr_timers.proofs.timer_counter.TimerCounter.run_to_change.Goals as goal

pub returns-clause-first : goal.returns-clause-first
returns-clause-first c =
    let s : TimerCounter = c.args.self.now in
    let same : earlier_of (earlier_of (earlier_of (earlier_of (if s.flags.tov then None else c.reaches.result) (if s.flags.ocf_a then None else c.reaches-2.result)) (if s.flags.ocf_b then None else c.reaches_some.result)) (if s.flags.ocf_c then None else c.reaches_some-2.result)) (if s.flags.icf then None else c.reaches_some-3.result) ≡ c.earlier-4.result = cc in
    subst (λ (o : Option ℕ). First (λ k. changes (many clock k s)) o) same
    (first-changed s c.reaches.result c.reaches-2.result c.reaches_some.result c.reaches_some-2.result c.reaches_some-3.result c.requires.free
    c.reaches.ensures.first c.reaches-2.ensures.first c.reaches_some.ensures.first c.reaches_some-2.ensures.first c.reaches_some-3.ensures.first)

pub returns-clause-few : goal.returns-clause-few
returns-clause-few c =
    let s : TimerCounter = c.args.self.now in
    let same : earlier_of (earlier_of (earlier_of (earlier_of (if s.flags.tov then None else c.reaches.result) (if s.flags.ocf_a then None else c.reaches-2.result)) (if s.flags.ocf_b then None else c.reaches_some.result)) (if s.flags.ocf_c then None else c.reaches_some-2.result)) (if s.flags.icf then None else c.reaches_some-3.result) ≡ c.earlier-4.result = cc in
    subst (λ (o : Option ℕ). IfSome o (λ w. w ≤ 131072)) same
    (earlier-within _ _ 131072
    (earlier-within _ _ 131072
    (earlier-within _ _ 131072
    (earlier-within _ _ 131072 (unset-within s.flags.tov c.reaches.result 131072 c.reaches.ensures.few) (unset-within s.flags.ocf_a c.reaches-2.result 131072 c.reaches-2.ensures.few))
    (unset-within s.flags.ocf_b c.reaches_some.result 131072 c.reaches_some.ensures.few))
    (unset-within s.flags.ocf_c c.reaches_some-2.result 131072 c.reaches_some-2.ensures.few))
    (unset-within s.flags.icf c.reaches_some-3.result 131072 c.reaches_some-3.ensures.few))
