use Rattle.std.proofs.Common.{◌==◌, ap, ◌∙◌, take_all}
use Rattle.std.specs.List.{count_by}
use Rattle.scenario_file.proofs.inputs.count_of.Goals as goal

pub returns : goal.returns
returns c = c.loop-other.invariant.count ∙ ap (λ t. count_by (λ m. m == c.args.node) t) (take_all c.loop-other.other-index c.args.nodes.now c.loop-other-test.false)
