use Rattle.std.proofs.Common.{ℕ, ap, subst, ◌∙◌}
use Rattle.board_io.specs.Board.{clocked}
use Rattle.board_io.specs.Lagging.{IsAhead}
use Rattle.board_io.proofs.Apart.{write_late}
use Rattle.board_io.proofs.Lags.{caught_zero}
use Rattle.board_io.proofs.lagging.LaggingBoard.put_and_look_ahead.Goals as goal

pub invariant_of-self : goal.invariant_of-self
invariant_of-self c = subst (λ (t : ℕ). IsAhead c.ahead-self-inside.result t c.put_by-put.new.self) c.get.ensures.value c.ahead-self-inside.ensures.ahead

pub returns : goal.returns
returns c =
    let i = c.self.inside in
    let now = ap (clocked i.held.clock) c.catch_up.ensures ∙ c.self.view_is in
    let new = caught_zero c.ahead-self-inside.result.settled i.held.clock c.put_by-put.new.self (c.ahead-self-inside.ensures.settled ∙ c.get.ensures.value) in
    write_late c.args.rule c.args.at c.args.x i.held.clock c.put_by-put.result c.catch_up.new.self c.put_by-put.new.self _ c.args.self.now now new c.put_by-put.ensures
