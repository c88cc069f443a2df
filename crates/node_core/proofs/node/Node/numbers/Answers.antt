use Rattle.std.proofs.Common.{◌∙◌, ◌++◌, ap, take}
use Rattle.air_base.specs.NodeRun.{Timed}
use Rattle.node_core.specs.declared.row.Row.{Row}
use Rattle.node_core.specs.Numbers.{numbers_of}
use Rattle.node_core.specs.State.{NodeState}
use Rattle.device_base.proofs.Places.{then_put}
use Rattle.node_core.proofs.node.Node.numbers.Goals as goal

pub returns : goal.returns
returns c =
    then_put 41 108 _ _ c.put_part-2.new.all c.put_part-3.new.all
    (c.put_part-2.ensures.part ∙ (λ i. (c.put_part.ensures.part ∙ c.register_numbers.ensures) i ++ c.core_tail.ensures i))
    (c.put_part-3.ensures.part ∙ ap (λ xs. take 41 c.put_part-2.new.all ++ xs) c.numbers.ensures)
    (c.put_part-3.ensures.len ∙ c.put_part-2.ensures.len ∙ c.put_part.ensures.len)
    ∙ ap (λ (v : Timed NodeState Row). numbers_of v.state) c.self.view_is
