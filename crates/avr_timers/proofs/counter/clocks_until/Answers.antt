use Rattle.std.proofs.Common.{◌≡◌, ◌+◌, ◌-◌, ℕ, ◌<◌, ◌==◌, ◌⊎◌, inl, inr, Some, subst, sym, arith}
use Rattle.avr_timers.specs.Counter.{path}
use Rattle.avr_timers.specs.First.{First}
use Rattle.avr_timers.proofs.Path.{first-run, first-later, first-never}
use Rattle.avr_timers.proofs.counter.clocks_until.Goals as goal
use Rattle.avr_timers.proofs.counter.clocks_until.Goals.{else-count-value-via-then-count-value+else-value-end, else-count-value-via-else-count-value}

pub returns-then-value-end-clause-first : goal.returns-then-value-end-clause-first
returns-then-value-end-clause-first c =
    subst (λ (w : ℕ). First (λ i. path c.args.max c.args.top c.args.count i == c.args.value) (Some w)) (sym c.from.ensures)
    (first-run c.args.max c.args.top c.args.count c.args.value c.wraps_at-end.result c.requires.top c.requires.count c.wraps_at-end.ensures.value c.if-count-value.true c.if-value-end.true)

pub returns-then-value-top-clause-first : goal.returns-then-value-top-clause-first
returns-then-value-top-clause-first c =
    let out : (c.args.value < c.args.count) ⊎ (c.wraps_at-end.result < c.args.value) = elim c.else-count-value.branch [ else-count-value-via-then-count-value+else-value-end w ↦ inr (omega arith) | else-count-value-via-else-count-value w ↦ inl (omega arith) ] in
    let same : c.wraps_at-end.result - c.args.count + 1 + c.args.value ≡ c.from-then-value-top.result + 1 + c.from-then-value-top-2.result = omega arith in
    subst (λ (w : ℕ). First (λ i. path c.args.max c.args.top c.args.count i == c.args.value) (Some w)) same
    (first-later c.args.max c.args.top c.args.count c.args.value c.wraps_at-end.result c.requires.top c.requires.count c.wraps_at-end.ensures.value out c.if-value-top.true)

pub returns-else-value-top-clause-first : goal.returns-else-value-top-clause-first
returns-else-value-top-clause-first c =
    let out : (c.args.value < c.args.count) ⊎ (c.wraps_at-end.result < c.args.value) = elim c.else-count-value.branch [ else-count-value-via-then-count-value+else-value-end w ↦ inr (omega arith) | else-count-value-via-else-count-value w ↦ inl (omega arith) ] in
    first-never c.args.max c.args.top c.args.count c.args.value c.wraps_at-end.result c.requires.top c.requires.count c.wraps_at-end.ensures.value out c.if-value-top.false
