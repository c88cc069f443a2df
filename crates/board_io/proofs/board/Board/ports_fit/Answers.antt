use Rattle.std.proofs.Common.{◌∙◌, ap, ◌++◌, take}
use Rattle.board_io.specs.Saved.{ports_fit}
use Rattle.serial_ports.specs.UsartNumbers as usart
use Rattle.serial_ports.specs.SpiNumbers as spi
use Rattle.serial_ports.specs.RadioNumbers as radio
use Rattle.device_base.proofs.Places.{then_put}
use Rattle.board_io.proofs.board.Board.ports_fit.Goals as goal

pub returns : goal.returns
unfolding ports_fit
returns c =
    let t = c.args.ends_from in
    let len = c.put_part-3.ensures.len ∙ c.put_part-2.ensures.len ∙ c.put_part.ensures.len in
    let a = c.put_part.ensures.part ∙ c.fits.ensures ∙ ap (usart.fits t) c.part.ensures in
    let b = c.put_part-2.ensures.part ∙ (λ i. a i ++ (c.fits-2.ensures ∙ ap (spi.fits t) c.part-2.ensures) i) in
    then_put 24 29 _ _ c.put_part-2.new.all c.put_part-3.new.all b
    (c.put_part-3.ensures.part ∙ ap (λ xs. take 24 c.put_part-2.new.all ++ xs) (c.fits-3.ensures ∙ ap radio.fits c.part-3.ensures)) len
