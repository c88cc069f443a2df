use Rattle.std.proofs.Common.{subst, arith}
use Rattle.std.specs.List.{All}
use Rattle.std.proofs.lemmas.List.{take_all}
use Rattle.node_monitors.specs.Taken.{IsWithin}
use Rattle.node_monitors.proofs.Rooms.{words_more}
use Rattle.node_monitors.proofs.ledger.words_of.Goals as goal

pub loop-row-preserved : goal.loop-row-preserved
loop-row-preserved c = record {
  within = words_more c.args.rows.now c.loop-row.row-index _ c.words_to.result c.loop-row.words c.max-words.result c.loop-row-test.true c.max-words.ensures c.words_to.ensures.within c.loop-row.invariant.within;
  most = omega arith;
}

pub returns-clause-within : goal.returns-clause-within
returns-clause-within c = subst (All (λ r. IsWithin c.loop-row.words r.kind)) (take_all c.loop-row.row-index c.args.rows.now c.loop-row-test.false) c.loop-row.invariant.within
