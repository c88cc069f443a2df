use Rattle.std.proofs.Common.{◌∙◌, ◌++◌, ap, take}
use Rattle.board_io.specs.Saved as board
use Rattle.node_core.specs.Numbers.{core_fits, fits}
use Rattle.device_base.proofs.Places.{then_put}
use Rattle.node_core.proofs.numbers.fits.Goals as goal

pub returns : goal.returns
unfolding fits
returns c =
    then_put 41 108 _ _ c.put_part.new.all c.put_part-2.new.all
    (c.put_part.ensures.part ∙ c.core_fits.ensures ∙ ap core_fits c.part.ensures)
    (c.put_part-2.ensures.part ∙ ap (λ xs. take 41 c.put_part.new.all ++ xs) (c.fits.ensures ∙ (λ i. board.fits (c.ends_from.ensures i) (c.part-2.ensures i))))
    (c.put_part-2.ensures.len ∙ c.put_part.ensures.len)
