use Rattle.std.proofs.Common.{◌≡◌, ℕ, ◌-◌, true, subst, arith}
use Rattle.avr_timers.specs.Timer16.{changes_flag_at}
use Rattle.board_io.proofs.passing.unchanged_16.Goals as goal

pub returns-in-Some-clause-calm : goal.returns-in-Some-clause-calm
returns-in-Some-clause-calm c i l = c.in-Some.ensures.first.1 i (omega arith)

pub returns-in-Some-clause-first : goal.returns-in-Some-clause-first
returns-in-Some-clause-first c l =
    let last : c.in-Some.event - c.args.cycle ≡ c.min.result = omega arith in
    subst (λ (n : ℕ). changes_flag_at c.args.cycle c.args.timer.now n ≡ true) last c.in-Some.ensures.first.0
