use Rattle.std.proofs.Common.{◌∙◌, ap, arith, map, nat_le, slice_index, sym}
use Rattle.std.proofs.lemmas.List.{length-set, take_all}
use Rattle.node_core.proofs.Saved.{tested}
use Rattle.node_core.proofs.numbers.register_fits.Goals as goal

pub loop-d-preserved : goal.loop-d-preserved
loop-d-preserved c =
    let len = c.loop-d.invariant.len in
    let low = c.loop-d-test.true in
    let long = c.told-numbers in
    record {
      len = length-set c.loop-d.fits c.loop-d.d (nat_le (slice_index c.args.numbers.now c.loop-d.d) 255) ∙ len;
      same = tested c.loop-d.fits c.args.numbers.now c.loop-d.d (omega arith) (omega arith) c.loop-d.invariant.same;
    }

pub returns : goal.returns
returns c =
    let len = c.loop-d.invariant.len in
    let past = c.loop-d-test.false in
    let long = c.told-numbers in
    sym (take_all c.loop-d.d c.loop-d.fits (omega arith)) ∙ c.loop-d.invariant.same
    ∙ ap (map (λ byte. nat_le byte 255)) (take_all c.loop-d.d c.args.numbers.now (omega arith))
