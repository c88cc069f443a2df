use Rattle.std.proofs.Common.{◌∙◌, ap, ◌++◌, take}
use Rattle.board_io.specs.Saved.{fits, ports_fit, timers_fit}
use Rattle.device_base.proofs.Places.{then_put}
use Rattle.board_io.proofs.board.Board.fits.Goals as goal

pub returns : goal.returns
unfolding fits
returns c =
    then_put 38 67 _ _ c.put_part.new.all c.put_part-2.new.all
    (c.put_part.ensures.part ∙ c.timers_fit.ensures ∙ ap timers_fit c.part.ensures)
    (c.put_part-2.ensures.part ∙ ap (λ xs. take 38 c.put_part.new.all ++ xs) (c.ports_fit.ensures ∙ ap (ports_fit c.args.ends_from) c.part-2.ensures))
    (c.put_part-2.ensures.len ∙ c.put_part.ensures.len)
