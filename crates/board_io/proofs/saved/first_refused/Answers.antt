use Rattle.std.proofs.Common.{arith, sym}
use Rattle.board_io.specs.Kept.{io_fits}
use Rattle.board_io.proofs.Refused.{first_failed, none_failed}
use Rattle.board_io.proofs.saved.first_refused.Goals as goal

pub returns-then-not-is_io : goal.returns-then-not-is_io
returns-then-not-is_io c =
    let low = c.loop-place-test.true in
    sym (first_failed (io_fits c.args.io.now) 224 c.loop-place.place (omega arith) c.loop-place.invariant (sym c.if-not-is_io.ensures))

pub returns : goal.returns
returns c =
    let past = c.loop-place-test.false in
    sym (none_failed (io_fits c.args.io.now) 224 (λ k low. c.loop-place.invariant k (omega arith)))
