use Rattle.std.proofs.Common.{ℕ, ap, subst, ◌∙◌}
use Rattle.board_io.specs.Board.{clocked}
use Rattle.board_io.specs.Lagging.{IsAhead}
use Rattle.board_io.proofs.Apart.{read_late}
use Rattle.board_io.proofs.Lags.{caught_zero}
use Rattle.board_io.proofs.lagging.LaggingBoard.get_caught_up.Goals as goal

pub invariant_of-self : goal.invariant_of-self
invariant_of-self c = subst (λ (t : ℕ). IsAhead c.ahead-self-inside.result t c.get_by-got.new.self) c.get.ensures.value c.ahead-self-inside.ensures.ahead

pub returns : goal.returns
returns c =
    let i = c.self.inside in
    let now = ap (clocked i.held.clock) c.catch_up.ensures ∙ c.self.view_is in
    let new = caught_zero c.ahead-self-inside.result.settled i.held.clock c.get_by-got.new.self (c.ahead-self-inside.ensures.settled ∙ c.get.ensures.value) in
    read_late c.args.rule c.args.at i.held.clock c.get_by-got.result c.catch_up.new.self c.get_by-got.new.self _ c.args.self.now now new c.get_by-got.ensures
