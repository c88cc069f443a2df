use Rattle.std.proofs.Common.{◌∙◌, arith, sym}
use Rattle.std.specs.Prelude.{not}
use Rattle.std.specs.List.{range_with_len}
use Rattle.std.proofs.lemmas.List.FromFn.{length-range_with_len}
use Rattle.std.proofs.lemmas.List.Quantifiers.{position-Some}
use Rattle.board_io.specs.Kept.{io_fits}
use Rattle.node_core.proofs.node.Node.fault.Goals as goal

pub overflow_cast-result : goal.overflow_cast-result
overflow_cast-result c =
    let low = position-Some (λ k. not (io_fits c.args.io.now k)) (range_with_len 0 224) c.in_ok-place.place 0 (sym c.first_refused.ensures ∙ c.in_ok-place.was) in
    omega (arith, length-range_with_len 0 224, low.0)

pub overflow_add-result : goal.overflow_add-result
overflow_add-result c =
    let low = position-Some (λ k. not (io_fits c.args.io.now k)) (range_with_len 0 224) c.in_ok-place.place 0 (sym c.first_refused.ensures ∙ c.in_ok-place.was) in
    omega (arith, length-range_with_len 0 224, low.0)
