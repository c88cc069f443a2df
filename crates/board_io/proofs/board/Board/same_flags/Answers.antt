use Rattle.std.proofs.Common.{arith}
use Rattle.board_io.proofs.Steady.{unchanged, changed_by}
use Rattle.avr_timers.specs.Timer16 as timer16
use Rattle.avr_timers.specs.Timer8 as timer8
use Rattle.board_io.proofs.board.Board.same_flags.Goals as goal

pub returns-clause-calm : goal.returns-clause-calm
returns-clause-calm c i l =
    let second = c.unchanged_16-second.ensures.within in
    let third = c.unchanged_8-third.ensures.within in
    let last = c.unchanged_16.ensures.within in
    unchanged c.args.cycle i c.args.self.now
    (c.unchanged_8-first.ensures.calm i (omega (arith, second, third, last, l))) (c.unchanged_16-second.ensures.calm i (omega (arith, third, last, l)))
    (c.unchanged_8-third.ensures.calm i (omega (arith, last, l))) (c.unchanged_16.ensures.calm i l)

pub returns-clause-first : goal.returns-clause-first
returns-clause-first c l =
    let t = c.args.cycle in
    let b = c.args.self.now in
    changed_by (timer8.changes_flag_at t b.t0) (timer16.changes_flag_at t b.t1) (timer8.changes_flag_at t b.t2) (timer16.changes_flag_at t b.t3)
    c.args.most c.unchanged_8-first.result c.unchanged_16-second.result c.unchanged_8-third.result c.unchanged_16.result
    c.unchanged_8-first.ensures.first c.unchanged_16-second.ensures.first c.unchanged_8-third.ensures.first c.unchanged_16.ensures.first
    c.unchanged_8-first.ensures.within c.unchanged_16-second.ensures.within c.unchanged_8-third.ensures.within c.unchanged_16.ensures.within l
