use Rattle.std.proofs.Common.{ℕ, sym, ap, subst, ◌∙◌}
use Rattle.board_io.specs.Board.{clocked}
use Rattle.board_io.specs.Lagging.{IsAhead}
use Rattle.board_io.proofs.Lags.{caught_zero}
use Rattle.board_io.proofs.lagging.LaggingBoard.restored.Goals as goal

pub invariant_of-result : goal.invariant_of-result
invariant_of-result c = subst (λ (t : ℕ). IsAhead c.ahead-ahead.result t c.args.board) (sym c.new-clock.ensures) c.ahead-ahead.ensures.ahead

pub returns : goal.returns
returns c =
    ap (clocked c.new-clock.result) (caught_zero c.ahead-ahead.result.settled c.new-clock.result c.args.board (c.ahead-ahead.ensures.settled ∙ sym c.new-clock.ensures))
    ∙ ap (λ (t : ℕ). clocked t c.args.board) c.new-clock.ensures
