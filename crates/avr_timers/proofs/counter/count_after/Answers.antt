use Rattle.std.proofs.Common.{sym, arith}
use Rattle.avr_timers.proofs.Path.{path-run, path-past}
use Rattle.avr_timers.proofs.counter.count_after.Goals as goal

pub returns-then-clocks-first-clause-value : goal.returns-then-clocks-first-clause-value
returns-then-clocks-first-clause-value c = sym (path-run c.args.max c.args.top c.args.count c.args.clocks c.requires.top c.requires.count (omega arith))

pub returns-else-clocks-first-clause-value : goal.returns-else-clocks-first-clause-value
returns-else-clocks-first-clause-value c =
    let past = path-past c.args.max c.args.top c.args.count c.args.clocks c.wraps_at.result c.requires.top c.requires.count c.wraps_at.ensures.value (omega arith) in
    cc
