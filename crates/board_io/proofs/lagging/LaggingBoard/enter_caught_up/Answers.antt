use Rattle.std.proofs.Common.{ℕ, ap, subst, ◌∙◌}
use Rattle.board_io.specs.Lines.{entered_of}
use Rattle.board_io.specs.declared.clocked.ClockedBoard.{ClockedBoard}
use Rattle.board_io.specs.Lagging.{IsAhead}
use Rattle.board_io.proofs.Lags.{caught_zero}
use Rattle.board_io.proofs.lagging.LaggingBoard.enter_caught_up.Goals as goal

pub invariant_of-self : goal.invariant_of-self
invariant_of-self c = subst (λ (t : ℕ). IsAhead c.ahead-self-inside.result t c.entered.new.self) c.get.ensures.value c.ahead-self-inside.ensures.ahead

pub returns-clause-state : goal.returns-clause-state
returns-clause-state c =
    let i = c.self.inside in
    caught_zero c.ahead-self-inside.result.settled i.held.clock c.entered.new.self (c.ahead-self-inside.ensures.settled ∙ c.get.ensures.value)
    ∙ (c.entered.ensures ∙ ap (entered_of c.args.v.word) (c.catch_up.ensures ∙ ap (λ (v : ClockedBoard). v.board) c.self.view_is))

pub returns-clause-clock : goal.returns-clause-clock
returns-clause-clock c = ap (λ (v : ClockedBoard). v.clock) c.self.view_is
