use Rattle.std.proofs.Common.{◌∙◌, arith, sym}
use Rattle.std.proofs.lemmas.List.{length-set, take_all}
use Rattle.node_core.proofs.Saved.{copied}
use Rattle.node_core.proofs.numbers.register_numbers.Goals as goal

pub loop-d-preserved : goal.loop-d-preserved
loop-d-preserved c =
    let len = c.loop-d.invariant.len in
    let low = c.loop-d-test.true in
    let long = c.told-r in
    record {
      len = length-set c.loop-d.numbers c.loop-d.d c.from.result ∙ len;
      same = copied c.loop-d.numbers c.args.r.now c.loop-d.d c.from.result (omega arith) (omega arith) c.from.ensures c.loop-d.invariant.same;
    }

pub returns : goal.returns
returns c =
    let len = c.loop-d.invariant.len in
    let past = c.loop-d-test.false in
    let long = c.told-r in
    sym (take_all c.loop-d.d c.loop-d.numbers (omega arith)) ∙ c.loop-d.invariant.same ∙ take_all c.loop-d.d c.args.r.now (omega arith)
