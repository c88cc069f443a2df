use Rattle.std.proofs.Common.{◌≡◌, ◌∙◌, ap, arith, refl, slice_index, sym, take}
use Rattle.std.proofs.lemmas.List.{length-set, take_all}
use Rattle.node_core.proofs.Saved.{copied}
use Rattle.node_core.proofs.restore.registers_of.Goals as goal

pub loop-d-preserved : goal.loop-d-preserved
loop-d-preserved c =
    let len = c.loop-d.invariant.len in
    let low = c.loop-d-test.true in
    let long = c.told-numbers in
    record {
      len = length-set c.loop-d.r c.loop-d.d (slice_index c.args.numbers.now c.loop-d.d) ∙ len;
      same = copied c.loop-d.r c.args.numbers.now c.loop-d.d (slice_index c.args.numbers.now c.loop-d.d) (omega arith) (omega arith) refl c.loop-d.invariant.same;
    }

pub returns : goal.returns
returns c =
    let len = c.loop-d.invariant.len in
    let past = c.loop-d-test.false in
    let end = c.loop-d.auto.d-end in
    let all : c.loop-d.d ≡ 32 = omega arith in
    sym (take_all c.loop-d.d c.loop-d.r (omega arith)) ∙ c.loop-d.invariant.same ∙ ap (λ k. take k c.args.numbers.now) all
