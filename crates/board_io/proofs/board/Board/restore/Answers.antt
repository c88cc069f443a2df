use Rattle.std.proofs.Common.{◌≡◌, ◌∙◌, ap, sym, true, false, Option, Some, None, is_some, Bool}
use Rattle.avr_timers.specs.Numbers8 as timer8
use Rattle.avr_timers.specs.Numbers16 as timer16
use Rattle.avr_timers.specs.declared.prescaler.Prescaler.TheVariants.{Own, Shared}
use Rattle.serial_ports.specs.UsartNumbers as usart
use Rattle.serial_ports.specs.SpiNumbers as spi
use Rattle.serial_ports.specs.RadioNumbers as radio
use Rattle.board_io.specs.declared.board.Board.{Board}
use Rattle.board_io.proofs.OneBoard.{Has, all_in, numbers-has, out_t0, out_t1, out_t2, out_t3, out_usart, out_spi, out_radio}
use Rattle.board_io.proofs.board.Board.restore.Goals as goal

none-is : {X : Type 0} {o : Option X} {b : Bool} → is_some o ≡ b → o ≡ None → b ≡ false
none-is h e = sym h ∙ ap is_some e

some-is : {X : Type 0} {o : Option X} {b : Bool} {x : X} → is_some o ≡ b → o ≡ Some x → b ≡ true
some-is h e = sym h ∙ ap is_some e

pub returns-in_err-from_numbers-clause-none : goal.returns-in_err-from_numbers-clause-none
returns-in_err-from_numbers-clause-none c =
    let out = none-is c.from_numbers.ensures.none c.in_err-from_numbers.was in
    ap is_some c.from_residual.ensures ∙ sym (out_t0 c.args.ends_from c.args.numbers.now (ap (timer8.are_numbers Own) (sym c.part.ensures) ∙ out))

pub returns-in_err-from_numbers-2-clause-none : goal.returns-in_err-from_numbers-2-clause-none
returns-in_err-from_numbers-2-clause-none c =
    let out = none-is c.from_numbers-2.ensures.none c.in_err-from_numbers-2.was in
    ap is_some c.from_residual-in_err-from_numbers-2.ensures ∙ sym (out_t2 c.args.ends_from c.args.numbers.now (ap (timer8.are_numbers Shared) (sym c.part-2.ensures) ∙ out))

pub returns-in_err-from_numbers-3-clause-none : goal.returns-in_err-from_numbers-3-clause-none
returns-in_err-from_numbers-3-clause-none c =
    let out = none-is c.from_numbers-3.ensures.none c.in_err-from_numbers-3.was in
    ap is_some c.from_residual-in_err-from_numbers-3.ensures ∙ sym (out_t1 c.args.ends_from c.args.numbers.now (ap (timer16.are_numbers) (sym c.part-3.ensures) ∙ out))

pub returns-in_err-from_numbers-4-clause-none : goal.returns-in_err-from_numbers-4-clause-none
returns-in_err-from_numbers-4-clause-none c =
    let out = none-is c.from_numbers-4.ensures.none c.in_err-from_numbers-4.was in
    ap is_some c.from_residual-in_err-from_numbers-4.ensures ∙ sym (out_t3 c.args.ends_from c.args.numbers.now (ap (timer16.are_numbers) (sym c.part-4.ensures) ∙ out))

pub returns-in_err-from_numbers-5-clause-none : goal.returns-in_err-from_numbers-5-clause-none
returns-in_err-from_numbers-5-clause-none c =
    let out = none-is c.from_numbers-5.ensures.none c.in_err-from_numbers-5.was in
    ap is_some c.from_residual-in_err-from_numbers-5.ensures ∙ sym (out_usart c.args.ends_from c.args.numbers.now (ap (usart.are_numbers c.args.ends_from) (sym c.part-5.ensures) ∙ out))

pub returns-in_err-from_numbers-6-clause-none : goal.returns-in_err-from_numbers-6-clause-none
returns-in_err-from_numbers-6-clause-none c =
    let out = none-is c.from_numbers-6.ensures.none c.in_err-from_numbers-6.was in
    ap is_some c.from_residual-in_err-from_numbers-6.ensures ∙ sym (out_spi c.args.ends_from c.args.numbers.now (ap (spi.are_numbers c.args.ends_from) (sym c.part-6.ensures) ∙ out))

pub returns-in_err-from_numbers-7-clause-none : goal.returns-in_err-from_numbers-7-clause-none
returns-in_err-from_numbers-7-clause-none c =
    let out = none-is c.from_numbers-7.ensures.none c.in_err-from_numbers-7.was in
    ap is_some c.from_residual-in_err-from_numbers-7.ensures ∙ sym (out_radio c.args.ends_from c.args.numbers.now (ap (radio.are_numbers) (sym c.part-7.ensures) ∙ out))

pub returns-clause-none : goal.returns-clause-none
returns-clause-none c =
    sym (
    all_in c.args.ends_from c.args.numbers.now
    (ap (timer8.are_numbers Own) (sym c.part.ensures) ∙ some-is c.from_numbers.ensures.none c.in_ok-from_numbers.was)
    (ap (timer8.are_numbers Shared) (sym c.part-2.ensures) ∙ some-is c.from_numbers-2.ensures.none c.in_ok-from_numbers-2.was)
    (ap (timer16.are_numbers) (sym c.part-3.ensures) ∙ some-is c.from_numbers-3.ensures.none c.in_ok-from_numbers-3.was)
    (ap (timer16.are_numbers) (sym c.part-4.ensures) ∙ some-is c.from_numbers-4.ensures.none c.in_ok-from_numbers-4.was)
    (ap (usart.are_numbers c.args.ends_from) (sym c.part-5.ensures) ∙ some-is c.from_numbers-5.ensures.none c.in_ok-from_numbers-5.was)
    (ap (spi.are_numbers c.args.ends_from) (sym c.part-6.ensures) ∙ some-is c.from_numbers-6.ensures.none c.in_ok-from_numbers-6.was)
    (ap (radio.are_numbers) (sym c.part-7.ensures) ∙ some-is c.from_numbers-7.ensures.none c.in_ok-from_numbers-7.was)
    )

pub returns-clause-some : goal.returns-clause-some
returns-clause-some c =
    let b : Board = record { kept = c.kept_of.result; t0 = c.in_ok-from_numbers.field-0; t1 = c.in_ok-from_numbers-3.field-0; t2 = c.in_ok-from_numbers-2.field-0; t3 = c.in_ok-from_numbers-4.field-0; usart = c.in_ok-from_numbers-5.field-0; spi = c.in_ok-from_numbers-6.field-0; radio = c.in_ok-from_numbers-7.field-0 } in
    let has : Has c.args.numbers.now b = record {
      t0 = c.in_ok-from_numbers.ensures.some.numbers ∙ c.part.ensures;
      t2 = c.in_ok-from_numbers-2.ensures.some.numbers ∙ c.part-2.ensures;
      t1 = c.in_ok-from_numbers-3.ensures.some.numbers ∙ c.part-3.ensures;
      t3 = c.in_ok-from_numbers-4.ensures.some.numbers ∙ c.part-4.ensures;
      usart = c.in_ok-from_numbers-5.ensures.some ∙ c.part-5.ensures;
      spi = c.in_ok-from_numbers-6.ensures.some ∙ c.part-6.ensures;
      radio = c.in_ok-from_numbers-7.ensures.some.numbers ∙ c.part-7.ensures;
    } in
    record {
      numbers = numbers-has c.args.numbers.now b c.told-numbers has;
      kept = c.kept_of.ensures;
      own = c.in_ok-from_numbers.ensures.some.prescaler;
      shared = c.in_ok-from_numbers-2.ensures.some.prescaler;
      select0 = c.in_ok-from_numbers.ensures.some.select;
      select1 = c.in_ok-from_numbers-3.ensures.some.select;
      select2 = c.in_ok-from_numbers-2.ensures.some.select;
      select3 = c.in_ok-from_numbers-4.ensures.some.select;
      gap = c.in_ok-from_numbers-7.ensures.some.gap;
    }
