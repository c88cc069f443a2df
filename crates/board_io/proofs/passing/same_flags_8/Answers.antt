use Rattle.std.proofs.Common.{◌≡◌, ℕ, ◌-◌, true, subst, arith}
use Rattle.board_io.proofs.Steady.{before_8, calm_8, halted_8}
use Rattle.avr_timers.specs.Timer8.{sets_flag_at}
use Rattle.board_io.proofs.passing.same_flags_8.Goals as goal

pub returns-in-None-clause-same : goal.returns-in-None-clause-same
returns-in-None-clause-same c i l = halted_8 c.args.cycle i c.args.timer.now (c.in-None.ensures.none.0 cc)

pub returns-in-Some-clause-same : goal.returns-in-Some-clause-same
returns-in-Some-clause-same c i l = before_8 c.args.cycle (c.in-Some.event - c.args.cycle) i c.args.timer.now c.in-Some.ensures.first (omega arith)

pub returns-in-Some-clause-first : goal.returns-in-Some-clause-first
returns-in-Some-clause-first c l =
    let last : c.in-Some.event - c.args.cycle ≡ c.min.result - 1 = omega arith in
    subst (λ (n : ℕ). sets_flag_at c.args.cycle c.args.timer.now n ≡ true) last c.in-Some.ensures.first.0

pub returns-in-None-clause-calm : goal.returns-in-None-clause-calm
returns-in-None-clause-calm c i l = calm_8 c.args.cycle i c.args.timer.now (c.in-None.ensures.none.0 cc)

pub returns-in-Some-clause-calm : goal.returns-in-Some-clause-calm
returns-in-Some-clause-calm c i l = c.in-Some.ensures.first.1 i (omega arith)
