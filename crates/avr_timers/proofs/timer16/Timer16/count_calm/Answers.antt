use Rattle.std.proofs.Common.{arith}
use Rattle.avr_timers.proofs.Clocks16.{count_calm, count_within}
use Rattle.avr_timers.proofs.timer16.Timer16.count_calm.Goals as goal

pub returns : goal.returns
returns c = count_calm c.args.cycle c.args.n c.clocks-clocks.result c.args.self.now c.clocks-clocks.ensures c.requires.calm

pub overflow_add-result : goal.overflow_add-result
overflow_add-result c =
    let is = count_calm c.args.cycle c.args.n c.clocks-clocks.result c.args.self.now c.clocks-clocks.ensures c.requires.calm in
    let within = count_within c.args.cycle c.args.n c.args.self.now (omega arith) in
    omega (arith, is, within)

pub overflow_cast-result : goal.overflow_cast-result
overflow_cast-result c =
    let is = count_calm c.args.cycle c.args.n c.clocks-clocks.result c.args.self.now c.clocks-clocks.ensures c.requires.calm in
    let within = count_within c.args.cycle c.args.n c.args.self.now (omega arith) in
    omega (arith, is, within)
