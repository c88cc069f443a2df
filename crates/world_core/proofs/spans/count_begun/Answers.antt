use Rattle.std.proofs.Common.{rules, of_calls}
use Rattle.std.proofs.lemmas.Fn.{always_returns_same}
use Rattle.world_core.specs.SpanSearch.{begins_by}
use Rattle.world_core.proofs.Search.{parts}
use Rattle.world_core.proofs.spans.count_begun.Goals as goal

pub returns-clause-point : goal.returns-clause-point
returns-clause-point c =
    c.partition_point.ensures.partitioned (begins_by c.args.place c.args.cycle) (always_returns_same _ _ _ (λ a r f k. search (rules, of_calls)))
    (parts c.args.spans.now c.args.place c.args.cycle c.requires.apart c.requires.spans)
