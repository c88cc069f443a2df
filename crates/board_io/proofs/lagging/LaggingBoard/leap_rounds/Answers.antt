use Rattle.std.proofs.Common.{◌≡◌, ℕ, ◌+◌, ◌*◌, ◌/◌, sym, ap, subst, ◌∙◌, arith}
use Rattle.std.proofs.Math.Nat.{div-mul-le_self}
use Rattle.board_io.specs.declared.clocked.ClockedBoard.{ClockedBoard}
use Rattle.board_io.specs.Lagging.{IsAhead, caught_up}
use Rattle.board_io.specs.Lines.{lines_of}
use Rattle.board_io.proofs.Lags.{IsFree, free, idle, later, lines_stay, passed}
use Rattle.board_io.proofs.lagging.LaggingBoard.leap_rounds.Goals as goal

-- the cycles that were passed
abbrev passed_by : goal.After-self-1 → ℕ
passed_by c = c.min.result / c.args.length * c.args.length

is_free : (c : goal.After-self-1) → IsFree c.self.inside.ahead.settled c.self.inside.held.clock (passed_by c) c.self.inside.held.board
is_free c =
    let at = c.get-clock.ensures.value in
    let whole = div-mul-le_self c.min.result c.args.length in
    free c.self.inside.ahead c.self.inside.held.clock c.self.inside.held.board c.self.invariant (passed_by c) (omega (arith, at, whole, c.min.ensures))

here : (c : goal.After-self-1) → c.self.inside.held.clock + passed_by c ≡ c.new-self-inside.result
here c = ap (λ (t : ℕ). t + passed_by c) (sym c.get-clock.ensures.value) ∙ sym c.new-self-inside.ensures

pub invariant_of-self : goal.invariant_of-self
invariant_of-self c =
    let i = c.self.inside in
    subst (λ (t : ℕ). IsAhead i.ahead t i.held.board) (here c) (later i.ahead i.held.clock i.held.board c.self.invariant (passed_by c) (is_free c))

pub returns-clause-idle : goal.returns-clause-idle
returns-clause-idle c =
    let i = c.self.inside in
    idle i.ahead i.held.clock i.held.board c.self.invariant (passed_by c) c.args.self.now c.self.view_is (is_free c)

pub returns-clause-state : goal.returns-clause-state
returns-clause-state c =
    let i = c.self.inside in
    ap (λ (t : ℕ). caught_up i.ahead.settled t i.held.board) (sym (here c)) ∙ passed i.ahead i.held.clock i.held.board c.self.invariant (passed_by c) c.args.self.now c.self.view_is

pub returns-clause-lines : goal.returns-clause-lines
returns-clause-lines c =
    let i = c.self.inside in
    ap (λ (t : ℕ). lines_of (caught_up i.ahead.settled t i.held.board)) (sym (here c))
    ∙ lines_stay i.ahead i.held.clock i.held.board c.self.invariant (passed_by c) c.args.self.now c.self.view_is (is_free c)

pub returns-clause-clock : goal.returns-clause-clock
returns-clause-clock c = sym (here c) ∙ ap (λ (v : ClockedBoard). v.clock + passed_by c) c.self.view_is
