use Rattle.std.proofs.Common.{ap, ◌∙◌, take_all}
use Rattle.std.specs.List.{count_by}
use Rattle.sample_maker.specs.Counts.{is_heard}
use Rattle.sample_maker.proofs.counts.samples.Goals as goal

pub returns : goal.returns
returns c = c.loop-row.invariant.count ∙ ap (λ t. count_by (is_heard c.args.status) t) (take_all c.loop-row.row-index c.args.rows.now c.loop-row-test.false)
