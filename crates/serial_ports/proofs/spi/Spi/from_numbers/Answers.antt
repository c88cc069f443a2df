use Rattle.std.proofs.Common.{◌≡◌, ◌∙◌, ap, arith, sym, subst, Some}
use Rattle.serial_ports.specs.SpiNumbers.{numbers_of}
use Rattle.serial_ports.proofs.SpiSaved.{has-numbers, one-spi, spi_of, within}
use Rattle.serial_ports.proofs.TransmissionSaved.{owned-most}
use Rattle.serial_ports.proofs.spi.Spi.from_numbers.Goals as goal

pub overflow_cast-result : goal.overflow_cast-result
overflow_cast-result c = let w = within c.args.cycle c.args.numbers.now c.if-not-are_numbers.ensures in let most = w.control in omega arith

pub overflow_cast-result-2 : goal.overflow_cast-result-2
overflow_cast-result-2 c = let w = within c.args.cycle c.args.numbers.now c.if-not-are_numbers.ensures in let most = w.register in omega arith

pub overflow_cast-byte : goal.overflow_cast-byte
overflow_cast-byte c =
    let w = within c.args.cycle c.args.numbers.now c.if-not-are_numbers.ensures in
    let most = owned-most _ _ 255 w.byte in omega arith

pub returns-clause-some : goal.returns-clause-some
returns-clause-some c =
    let has = has-numbers c.args.cycle c.args.numbers.now c.told-numbers c.if-not-are_numbers.ensures in
    subst (λ shift_register. numbers_of (record (spi_of c.args.numbers.now) { shift_register = shift_register }) ≡ c.args.numbers.now) (sym c.transmission_of.ensures) has

pub returns-clause-one : goal.returns-clause-one
returns-clause-one c = λ s h fits.
    let one = one-spi c.args.numbers.now s h in
    ap (λ shift_register. Some (record (spi_of c.args.numbers.now) { shift_register = shift_register })) c.transmission_of.ensures ∙ ap Some one
