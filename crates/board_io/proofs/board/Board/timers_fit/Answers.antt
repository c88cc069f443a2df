use Rattle.std.proofs.Common.{◌∙◌, ap, ◌++◌, take}
use Rattle.board_io.specs.Saved.{timers_fit}
use Rattle.avr_timers.specs.Numbers8 as timer8
use Rattle.avr_timers.specs.Numbers16 as timer16
use Rattle.avr_timers.specs.declared.prescaler.Prescaler.TheVariants.{Own, Shared}
use Rattle.device_base.proofs.Places.{then_put}
use Rattle.board_io.proofs.board.Board.timers_fit.Goals as goal

pub returns : goal.returns
unfolding timers_fit
returns c =
    let len = c.put_part-4.ensures.len ∙ c.put_part-3.ensures.len ∙ c.put_part-2.ensures.len ∙ c.put_part.ensures.len in
    let a = c.put_part.ensures.part ∙ c.fits.ensures ∙ ap (timer8.fits Own) c.part.ensures in
    let b = c.put_part-2.ensures.part ∙ (λ i. a i ++ (c.fits-2.ensures ∙ ap (timer8.fits Shared) c.part-2.ensures) i) in
    let d = c.put_part-3.ensures.part ∙ (λ i. b i ++ (c.fits-3.ensures ∙ ap timer16.fits c.part-3.ensures) i) in
    then_put 25 38 _ _ c.put_part-3.new.all c.put_part-4.new.all d
    (c.put_part-4.ensures.part ∙ ap (λ xs. take 25 c.put_part-3.new.all ++ xs) (c.fits-4.ensures ∙ ap timer16.fits c.part-4.ensures)) len
