use Rattle.std.proofs.Common.{ℕ, sym, subst, arith}
use Rattle.board_io.specs.Board.{clocked}
use Rattle.board_io.specs.Lagging.{IsAhead, caught_up}
use Rattle.board_io.specs.Registers.{IsGot, get_in}
use Rattle.board_io.proofs.Beside.{calm_beside, got_timers, past_beside, read_beside, steady_beside}
use Rattle.board_io.proofs.lagging.LaggingBoard.get_port.Goals as goal

pub ahead_beside-self-inside-requires-clause-settled : goal.ahead_beside-self-inside-requires-clause-settled
ahead_beside-self-inside-requires-clause-settled c =
    let at = c.get-clock.ensures.value in
    let settled = c.self.invariant.settled in
    omega (arith, at, settled)

pub ahead_beside-self-inside-requires-clause-now : goal.ahead_beside-self-inside-requires-clause-now
ahead_beside-self-inside-requires-clause-now c =
    let at = c.get-clock.ensures.value in
    let now = c.self.invariant.now in
    omega (arith, at, now)

pub ahead_beside-self-inside-requires-clause-early : goal.ahead_beside-self-inside-requires-clause-early
ahead_beside-self-inside-requires-clause-early c = c.self.invariant.early

pub ahead_beside-self-inside-requires-clause-calm : goal.ahead_beside-self-inside-requires-clause-calm
ahead_beside-self-inside-requires-clause-calm c =
    let i = c.self.inside in
    calm_beside i.ahead i.held.clock i.held.board c.get_by-got.new.self (got_timers c.args.rule i.held.board c.args.at i.ahead.settled i.held.clock c.requires c.get_by-got.result c.get_by-got.new.self c.get_by-got.ensures) c.self.invariant

pub ahead_beside-self-inside-requires-clause-past : goal.ahead_beside-self-inside-requires-clause-past
ahead_beside-self-inside-requires-clause-past c k below =
    let i = c.self.inside in
    let at = c.get-clock.ensures.value in
    past_beside i.ahead i.held.clock i.held.board c.get_by-got.new.self (got_timers c.args.rule i.held.board c.args.at i.ahead.settled i.held.clock c.requires c.get_by-got.result c.get_by-got.new.self c.get_by-got.ensures) c.self.invariant k (omega (arith, at, below))

pub ahead_beside-self-inside-requires-clause-steady : goal.ahead_beside-self-inside-requires-clause-steady
ahead_beside-self-inside-requires-clause-steady c =
    let i = c.self.inside in
    steady_beside i.ahead i.held.clock i.held.board c.get_by-got.new.self (got_timers c.args.rule i.held.board c.args.at i.ahead.settled i.held.clock c.requires c.get_by-got.result c.get_by-got.new.self c.get_by-got.ensures) c.self.invariant

pub invariant_of-self : goal.invariant_of-self
invariant_of-self c = subst (λ (t : ℕ). IsAhead c.ahead_beside-self-inside.result t c.get_by-got.new.self) c.get-clock.ensures.value c.ahead_beside-self-inside.ensures.ahead

pub returns : goal.returns
returns c =
    let i = c.self.inside in
    subst (λ (s : ℕ). IsGot (get_in c.args.rule c.args.self.now c.args.at) c.args.self.now c.get_by-got.result (clocked i.held.clock (caught_up s i.held.clock c.get_by-got.new.self))) (sym c.ahead_beside-self-inside.ensures.settled)
    (read_beside c.args.rule i.held.board c.args.at i.ahead.settled i.held.clock c.requires c.get_by-got.result c.get_by-got.new.self c.args.self.now c.self.view_is c.get_by-got.ensures)
