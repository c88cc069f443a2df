use Rattle.std.proofs.Common.{arith, ap, subst, sym, Some}
use Rattle.avr_timers.specs.Numbers8.{HasNumbers}
use Rattle.avr_timers.proofs.Saved8.{has-numbers, one-timer, timer_of, within}
use Rattle.avr_timers.proofs.timer8.Timer8.from_numbers.Goals as goal

pub overflow_cast-control : goal.overflow_cast-control
overflow_cast-control c = let w = within c.args.prescaler c.args.numbers.now c.if-not-are_numbers.ensures in let most = w.control in omega arith

pub overflow_cast-result-2 : goal.overflow_cast-result-2
overflow_cast-result-2 c = let w = within c.args.prescaler c.args.numbers.now c.if-not-are_numbers.ensures in let most = w.count in omega arith

pub overflow_cast-result-3 : goal.overflow_cast-result-3
overflow_cast-result-3 c = let w = within c.args.prescaler c.args.numbers.now c.if-not-are_numbers.ensures in let most = w.compare in omega arith

pub returns-clause-some : goal.returns-clause-some
returns-clause-some c =
    let timer = timer_of c.args.prescaler c.args.numbers.now in
    let has = has-numbers c.args.prescaler c.args.numbers.now c.told-numbers c.if-not-are_numbers.ensures in
    subst (λ ctc. HasNumbers c.args.prescaler c.args.numbers.now (record timer { ctc = ctc })) (sym c.any_bit.ensures) has

pub returns-clause-one : goal.returns-clause-one
returns-clause-one c = λ tm h fits. let one = one-timer c.args.prescaler c.args.numbers.now tm h in ap Some (cc)
