use Rattle.std.proofs.Common.{◌≡◌, ℕ, ◌+◌, sym, ap, subst, ◌∙◌, arith}
use Rattle.board_io.specs.declared.clocked.ClockedBoard.{ClockedBoard}
use Rattle.board_io.specs.Lagging.{IsAhead, caught_up}
use Rattle.board_io.specs.Lines.{lines_of}
use Rattle.board_io.proofs.Lags.{IsFree, free, idle, later, lines_stay, passed}
use Rattle.board_io.proofs.lagging.LaggingBoard.leap_up_to.Goals as goal

-- the cycles that were passed are free
is_free : (c : goal.After-self-1) → IsFree c.self.inside.ahead.settled c.self.inside.held.clock c.min-n.result c.self.inside.held.board
is_free c =
    let at = c.get-clock.ensures.value in
    free c.self.inside.ahead c.self.inside.held.clock c.self.inside.held.board c.self.invariant c.min-n.result (omega (arith, at))

here : (c : goal.After-self-1) → c.self.inside.held.clock + c.min-n.result ≡ c.new-self-inside.result
here c = ap (λ (t : ℕ). t + c.min-n.result) (sym c.get-clock.ensures.value) ∙ sym c.new-self-inside.ensures

pub invariant_of-self : goal.invariant_of-self
invariant_of-self c =
    let i = c.self.inside in
    subst (λ (t : ℕ). IsAhead i.ahead t i.held.board) (here c) (later i.ahead i.held.clock i.held.board c.self.invariant c.min-n.result (is_free c))

pub returns-clause-idle : goal.returns-clause-idle
returns-clause-idle c =
    let i = c.self.inside in
    idle i.ahead i.held.clock i.held.board c.self.invariant c.min-n.result c.args.self.now c.self.view_is (is_free c)

pub returns-clause-state : goal.returns-clause-state
returns-clause-state c =
    let i = c.self.inside in
    ap (λ (t : ℕ). caught_up i.ahead.settled t i.held.board) (sym (here c)) ∙ passed i.ahead i.held.clock i.held.board c.self.invariant c.min-n.result c.args.self.now c.self.view_is

pub returns-clause-lines : goal.returns-clause-lines
returns-clause-lines c =
    let i = c.self.inside in
    ap (λ (t : ℕ). lines_of (caught_up i.ahead.settled t i.held.board)) (sym (here c))
    ∙ lines_stay i.ahead i.held.clock i.held.board c.self.invariant c.min-n.result c.args.self.now c.self.view_is (is_free c)

pub returns-clause-clock : goal.returns-clause-clock
returns-clause-clock c = sym (here c) ∙ ap (λ (v : ClockedBoard). v.clock + c.min-n.result) c.self.view_is
