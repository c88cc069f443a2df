use Rattle.std.proofs.Common.{◌∙◌, ap, arith, sym, Some, is_some}
use Rattle.std.proofs.lemmas.Bool.{false≢true}
use Rattle.avr_timers.proofs.Saved16.{has-numbers, one-timer, within}
use Rattle.avr_timers.proofs.timer16.Timer16.from_numbers.Goals as goal

pub overflow_cast-result-2 : goal.overflow_cast-result-2
overflow_cast-result-2 c = let w = within c.args.numbers.now c.if-not-are_numbers.ensures in let most = w.count in omega arith

pub overflow_cast-result-3 : goal.overflow_cast-result-3
overflow_cast-result-3 c = let w = within c.args.numbers.now c.if-not-are_numbers.ensures in let most = w.compare_a in omega arith

pub overflow_cast-result-4 : goal.overflow_cast-result-4
overflow_cast-result-4 c = let w = within c.args.numbers.now c.if-not-are_numbers.ensures in let most = w.compare_b in omega arith

pub overflow_cast-result-5 : goal.overflow_cast-result-5
overflow_cast-result-5 c = let w = within c.args.numbers.now c.if-not-are_numbers.ensures in let most = w.compare_c in omega arith

pub overflow_cast-result-6 : goal.overflow_cast-result-6
overflow_cast-result-6 c = let w = within c.args.numbers.now c.if-not-are_numbers.ensures in let most = w.icr in omega arith

pub overflow_cast-result-7 : goal.overflow_cast-result-7
overflow_cast-result-7 c = let w = within c.args.numbers.now c.if-not-are_numbers.ensures in let most = w.temp in omega arith

pub returns-clause-some : goal.returns-clause-some
returns-clause-some c =
    let mode = sym c.control_mode.ensures ∙ c.in_ok-mode.was in
    has-numbers c.in_ok-mode.mode c.args.numbers.now c.told-numbers mode c.if-not-are_numbers.ensures

pub returns-clause-one : goal.returns-clause-one
returns-clause-one c = λ tm h fits.
    let mode = sym c.control_mode.ensures ∙ c.in_ok-mode.was in
    ap Some (one-timer c.in_ok-mode.mode c.args.numbers.now tm mode h)

pub returns-in_err-mode-clause-none : goal.returns-in_err-mode-clause-none
returns-in_err-mode-clause-none c =
    let w = within c.args.numbers.now c.if-not-are_numbers.ensures in
    let none = sym c.control_mode.ensures ∙ c.in_err-mode.was in
    absurd (false≢true (ap is_some (sym none) ∙ w.control))

pub returns-in_err-mode-clause-one : goal.returns-in_err-mode-clause-one
returns-in_err-mode-clause-one c =
    let w = within c.args.numbers.now c.if-not-are_numbers.ensures in
    let none = sym c.control_mode.ensures ∙ c.in_err-mode.was in
    absurd (false≢true (ap is_some (sym none) ∙ w.control))
