use Rattle.std.proofs.Common.{◌≡◌, ℕ, ◌+◌, sym, ap, subst, ◌∙◌, arith}
use Rattle.board_io.specs.declared.clocked.ClockedBoard.{ClockedBoard}
use Rattle.board_io.specs.Board.{clocked}
use Rattle.board_io.specs.Lagging.{IsAhead, IsUneventful, caught_up}
use Rattle.board_io.specs.Lines.{lines_of}
use Rattle.board_io.proofs.Lags.{IsFree, calm_stays, free_to, idle, later, lines_stay, passed}
use Rattle.board_io.proofs.lagging.LaggingBoard.leap_within.Goals as goal

now_at : (c : goal.After-self-1) → c.self.inside.held.clock ≡ c.args.self.now.clock
now_at c = ap (λ (v : ClockedBoard). v.clock) c.self.view_is

-- the cycles that were passed are free
is_free : (c : goal.After-self-1) → IsFree c.self.inside.ahead.settled c.self.inside.held.clock c.args.n c.self.inside.held.board
is_free c =
    let i = c.self.inside in
    let at = c.get.ensures.value in
    free_to i.ahead i.held.clock i.held.board c.self.invariant c.args.bound c.args.n c.args.self.now c.self.view_is c.requires.early c.requires.calm (omega (arith, at))

here : (c : goal.After-self-1) → c.self.inside.held.clock + c.args.n ≡ c.new-self-inside.result
here c = let at = c.get.ensures.value in omega (arith, at, c.new-self-inside.ensures)

pub invariant_of-self : goal.invariant_of-self
invariant_of-self c =
    let i = c.self.inside in
    subst (λ (t : ℕ). IsAhead i.ahead t i.held.board) (here c) (later i.ahead i.held.clock i.held.board c.self.invariant c.args.n (is_free c))

pub returns-clause-within : goal.returns-clause-within
returns-clause-within c =
    let at = c.get.ensures.value in
    let same = now_at c in
    λ _. omega (arith, at, same)

pub returns-clause-idle : goal.returns-clause-idle
returns-clause-idle c =
    let i = c.self.inside in
    λ _. idle i.ahead i.held.clock i.held.board c.self.invariant c.args.n c.args.self.now c.self.view_is (is_free c)

pub returns-clause-state : goal.returns-clause-state
returns-clause-state c =
    let i = c.self.inside in
    λ _.
    ap (λ (t : ℕ). caught_up i.ahead.settled t i.held.board) (sym (here c)) ∙ passed i.ahead i.held.clock i.held.board c.self.invariant c.args.n c.args.self.now c.self.view_is

pub returns-clause-lines : goal.returns-clause-lines
returns-clause-lines c =
    let i = c.self.inside in
    λ _.
    ap (λ (t : ℕ). lines_of (caught_up i.ahead.settled t i.held.board)) (sym (here c))
    ∙ lines_stay i.ahead i.held.clock i.held.board c.self.invariant c.args.n c.args.self.now c.self.view_is (is_free c)

pub returns-clause-calm : goal.returns-clause-calm
returns-clause-calm c =
    let i = c.self.inside in
    let at = c.get.ensures.value in
    λ _.
    subst (λ (t : ℕ). IsUneventful c.args.bound (clocked t (caught_up i.ahead.settled t i.held.board))) (here c)
    (calm_stays i.ahead i.held.clock i.held.board c.self.invariant c.args.bound c.args.n c.args.self.now c.self.view_is c.requires.calm (omega (arith, at)))

pub returns-clause-clock : goal.returns-clause-clock
returns-clause-clock c = λ _. sym (here c) ∙ ap (λ (t : ℕ). t + c.args.n) (now_at c)
