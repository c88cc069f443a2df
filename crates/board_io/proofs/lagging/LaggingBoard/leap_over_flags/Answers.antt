use Rattle.std.proofs.Common.{◌≡◌, ℕ, ◌+◌, ◌-◌, sym, ap, ◌∙◌, arith}
use Rattle.board_io.specs.declared.clocked.ClockedBoard.{ClockedBoard}
use Rattle.board_io.specs.Cycle.{board_quiet, timers_leap}
use Rattle.board_io.proofs.Lags.{caught_zero, passed}
use Rattle.board_io.proofs.Leaps.{leap_quiet}
use Rattle.board_io.proofs.lagging.LaggingBoard.leap_over_flags.Goals as goal

pub overflow_add-end : goal.overflow_add-end
overflow_add-end c =
    let at : c.self.inside.held.clock ≡ c.args.cycle = ap (λ (v : ClockedBoard). v.clock) c.self.view_is ∙ c.requires.now in
    let now = c.self.invariant.now in
    let n = c.from-n.ensures in
    omega (arith, at, now, n)

pub returns-clause-quiet : goal.returns-clause-quiet
returns-clause-quiet c = λ i _ l.
    let v = c.self.inside in
    let u : ℕ = c.args.cycle + i in
    let n = c.from-n.ensures in
    ap (λ (w : ClockedBoard). board_quiet u w.board) (sym c.self.view_is)
    ∙ (leap_quiet u v.ahead.settled (v.held.clock - v.ahead.settled) v.held.board ∙ c.quiet.ensures.none i (omega (arith, l, n)))

pub returns-clause-state : goal.returns-clause-state
returns-clause-state c = λ _.
    let v = c.self.inside in
    let at : v.held.clock ≡ c.args.cycle = ap (λ (w : ClockedBoard). w.clock) c.self.view_is ∙ c.requires.now in
    let n = c.from-n.ensures in
    let end : c.args.cycle + c.from-n.result ≡ v.held.clock + c.args.n = omega (arith, at, n) in
    caught_zero c.ahead-self-inside.result.settled c.new-self-inside.result c.leap.new.self (c.ahead-self-inside.ensures.settled ∙ sym c.new-self-inside.ensures)
    ∙ (c.leap.ensures
    ∙ (ap (λ (u : ℕ). timers_leap v.ahead.settled (u - v.ahead.settled) v.held.board) end
    ∙ (passed v.ahead v.held.clock v.held.board c.self.invariant c.args.n c.args.self.now c.self.view_is
    ∙ ap (λ (t : ℕ). timers_leap t c.args.n c.args.self.now.board) c.requires.now)))
