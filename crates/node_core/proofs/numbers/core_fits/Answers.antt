use Rattle.std.proofs.Common.{◌∙◌, ap, map, nat_le}
use Rattle.node_core.specs.Numbers.{core_fits}
use Rattle.device_base.proofs.Places.{then_put}
use Rattle.node_core.proofs.numbers.core_fits.Goals as goal

pub returns : goal.returns
unfolding core_fits
returns c =
    then_put 33 41 _ _ c.put_part.new.all c.put_part-2.new.all
    (c.put_part.ensures.part ∙ c.register_fits.ensures ∙ ap (map (λ byte. nat_le byte 255)) c.part.ensures)
    c.put_part-2.ensures.part (c.put_part-2.ensures.len ∙ c.put_part.ensures.len)
