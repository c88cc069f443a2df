use Rattle.std.proofs.Common.{ap, ◌∙◌, take_all}
use Rattle.std.specs.List.{count_by}
use Rattle.sample_maker.specs.Counts.{is_sent}
use Rattle.sample_maker.proofs.counts.sends.Goals as goal

pub returns : goal.returns
returns c = c.loop-row.invariant.count ∙ ap (λ t. count_by is_sent t) (take_all c.loop-row.row-index c.args.rows.now c.loop-row-test.false)
