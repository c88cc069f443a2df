use Rattle.std.proofs.Common.{arith}
use Rattle.board_io.proofs.Steady.{lines_same, set_by}
use Rattle.avr_timers.specs.Timer16 as timer16
use Rattle.avr_timers.specs.Timer8 as timer8
use Rattle.board_io.proofs.board.Board.same_lines.Goals as goal

pub returns-clause-same : goal.returns-clause-same
returns-clause-same c i l =
    let second = c.same_flags_16-second.ensures.within in
    let third = c.same_flags_8-third.ensures.within in
    let last = c.same_flags_16.ensures.within in
    lines_same c.args.cycle i c.args.self.now
    (c.same_flags_8-first.ensures.same i (omega (arith, second, third, last, l))) (c.same_flags_16-second.ensures.same i (omega (arith, third, last, l)))
    (c.same_flags_8-third.ensures.same i (omega (arith, last, l))) (c.same_flags_16.ensures.same i l)

pub returns-clause-first : goal.returns-clause-first
returns-clause-first c l =
    let t = c.args.cycle in
    let b = c.args.self.now in
    set_by (timer8.sets_flag_at t b.t0) (timer16.sets_flag_at t b.t1) (timer8.sets_flag_at t b.t2) (timer16.sets_flag_at t b.t3)
    c.args.most c.same_flags_8-first.result c.same_flags_16-second.result c.same_flags_8-third.result c.same_flags_16.result
    c.same_flags_8-first.ensures.first c.same_flags_16-second.ensures.first c.same_flags_8-third.ensures.first c.same_flags_16.ensures.first
    c.same_flags_8-first.ensures.within c.same_flags_16-second.ensures.within c.same_flags_8-third.ensures.within c.same_flags_16.ensures.within l
