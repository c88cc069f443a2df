use Rattle.std.proofs.Common.{◌∙◌, ◌++◌, ap}
use Rattle.device_base.proofs.Places.{then_put}
use Rattle.state_text.proofs.reading.joined.Goals as goal

pub returns : goal.returns
returns c =
    then_put 79 108 _ _ c.put_part-2.new.all c.put_part-3.new.all
    (c.put_part-2.ensures.part ∙ ap (λ xs. xs ++ c.args.timers.now) c.put_part.ensures.part)
    c.put_part-3.ensures.part (c.put_part-3.ensures.len ∙ c.put_part-2.ensures.len ∙ c.put_part.ensures.len)
