use Rattle.std.proofs.Common.{◌∙◌, ap, arith, sym, subst, Some}
use Rattle.serial_ports.specs.RadioNumbers.{HasNumbers}
use Rattle.serial_ports.proofs.RadioSaved.{has-numbers, one-radio, radio_of, within}
use Rattle.serial_ports.proofs.TransmissionSaved.{owned-most}
use Rattle.serial_ports.proofs.radio.Radio.from_numbers.Goals as goal

pub overflow_cast-heard : goal.overflow_cast-heard
overflow_cast-heard c = let w = within c.args.numbers.now (sym c.if-not-are_numbers.ensures) in let most = owned-most _ _ 2 w.status in omega arith

pub overflow_cast-heard-2 : goal.overflow_cast-heard-2
overflow_cast-heard-2 c = let w = within c.args.numbers.now (sym c.if-not-are_numbers.ensures) in let most = owned-most _ _ 255 w.byte in omega arith

pub overflow_cast-heard-3 : goal.overflow_cast-heard-3
overflow_cast-heard-3 c = let w = within c.args.numbers.now (sym c.if-not-are_numbers.ensures) in let most = owned-most _ _ 255 w.age in omega arith

pub returns-clause-some : goal.returns-clause-some
returns-clause-some c =
    let has = has-numbers c.args.byte_time c.args.numbers.now c.told-numbers (sym c.if-not-are_numbers.ensures) in
    subst (λ state. HasNumbers c.args.byte_time c.args.numbers.now (record (radio_of c.args.byte_time c.args.numbers.now) { state = state })) (sym c.state_of.ensures) has

pub returns-clause-one : goal.returns-clause-one
returns-clause-one c = λ r h fits.
    let one = one-radio c.args.byte_time c.args.numbers.now r fits h in
    ap (λ state. Some (record (radio_of c.args.byte_time c.args.numbers.now) { state = state })) c.state_of.ensures ∙ ap Some one
