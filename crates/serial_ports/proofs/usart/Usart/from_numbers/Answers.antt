use Rattle.std.proofs.Common.{◌∙◌, ap, arith, sym, Some}
use Rattle.serial_ports.specs.UsartNumbers.{numbers_of}
use Rattle.serial_ports.proofs.UsartSaved.{has-numbers, made-is, one-usart, within}
use Rattle.serial_ports.proofs.TransmissionSaved.{owned-most}
use Rattle.serial_ports.proofs.usart.Usart.from_numbers.Goals as goal

pub overflow_cast-first : goal.overflow_cast-first
overflow_cast-first c = let w = within c.args.cycle c.args.numbers.now (sym c.if-not-are_numbers.ensures) in let most = owned-most _ _ 255 w.first in omega arith

pub overflow_cast-second : goal.overflow_cast-second
overflow_cast-second c = let w = within c.args.cycle c.args.numbers.now (sym c.if-not-are_numbers.ensures) in let most = owned-most _ _ 255 w.second in omega arith

pub overflow_cast-byte : goal.overflow_cast-byte
overflow_cast-byte c = let w = within c.args.cycle c.args.numbers.now (sym c.if-not-are_numbers.ensures) in let most = owned-most _ _ 255 w.byte in omega arith

pub overflow_cast-next : goal.overflow_cast-next
overflow_cast-next c = let w = within c.args.cycle c.args.numbers.now (sym c.if-not-are_numbers.ensures) in let most = owned-most _ _ 255 w.next in omega arith

pub overflow_cast-result : goal.overflow_cast-result
overflow_cast-result c = let w = within c.args.cycle c.args.numbers.now (sym c.if-not-are_numbers.ensures) in let most = w.baud in omega arith

pub overflow_cast-result-2 : goal.overflow_cast-result-2
overflow_cast-result-2 c = let w = within c.args.cycle c.args.numbers.now (sym c.if-not-are_numbers.ensures) in let most = w.control_b in omega arith

pub overflow_cast-result-3 : goal.overflow_cast-result-3
overflow_cast-result-3 c = let w = within c.args.cycle c.args.numbers.now (sym c.if-not-are_numbers.ensures) in let most = w.control_c in omega arith

pub returns-clause-some : goal.returns-clause-some
returns-clause-some c =
    let made = made-is c.args.numbers.now _ _ _ c.receive_buffer_of-receive_buffer.ensures c.transmission_of-shift_register.ensures c.transmit_buffer_of-transmit_buffer.ensures in
    ap numbers_of made ∙ has-numbers c.args.cycle c.args.numbers.now c.told-numbers (sym c.if-not-are_numbers.ensures)

pub returns-clause-one : goal.returns-clause-one
returns-clause-one c = λ u h fits.
    let made = made-is c.args.numbers.now _ _ _ c.receive_buffer_of-receive_buffer.ensures c.transmission_of-shift_register.ensures c.transmit_buffer_of-transmit_buffer.ensures in
    ap Some (made ∙ one-usart c.args.numbers.now u h)
