use Rattle.std.proofs.Common.{◌≡◌, ◌+◌, ◌-◌, ℕ, is_some, refl, sym, ap, subst, ◌∙◌, arith}
use Rattle.board_io.specs.declared.board.Board.{Board}
use Rattle.board_io.specs.declared.clocked.ClockedBoard.{ClockedBoard}
use Rattle.board_io.specs.Cycle.{timers_cycle, timers_leap}
use Rattle.board_io.specs.Lagging.{IsAhead, caught_up}
use Rattle.board_io.proofs.Lags.{caught_zero}
use Rattle.board_io.proofs.Ports.{air_ports, begun_ports, leap_with, serial_ports}
use Rattle.board_io.proofs.lagging.LaggingBoard.begin_caught_up.Goals as goal

pub overflow_sub-n : goal.overflow_sub-n
overflow_sub-n c =
    let at = ap (λ (v : ClockedBoard). v.clock) c.self.view_is in
    let settled = c.self.invariant.settled in
    omega (arith, at, settled, c.requires.now)

-- the timers' part of the cycle is done by the leap
ticked : (c : goal.After-self-2-1) → c.leap.new.self ≡ timers_cycle c.args.cycle c.args.self.now.board
ticked c =
    let a = c.self.inside.ahead in
    let b : Board = c.self.inside.held.board in
    let t = c.args.cycle in
    let at : c.self.inside.held.clock ≡ t = ap (λ (v : ClockedBoard). v.clock) c.self.view_is ∙ c.requires.now in
    let settled = c.self.invariant.settled in
    c.leap.ensures
    ∙ (leap_with a.settled t (t + 1 - a.settled) b (omega (arith, at, settled)) refl
    ∙ ap (timers_cycle t) (ap (λ (u : ℕ). timers_leap a.settled (u - a.settled) b) (sym at) ∙ ap (λ (v : ClockedBoard). v.board) c.self.view_is))

-- and no cycle is left to make up for
value : (c : goal.After-self-2-1) → caught_up c.ahead-self-inside.result.settled c.new-self-inside.result c.begin_ports-begun.new.self ≡ c.begin_ports-begun.new.self
value c = caught_zero c.ahead-self-inside.result.settled c.new-self-inside.result c.begin_ports-begun.new.self (c.ahead-self-inside.ensures.settled ∙ sym c.new-self-inside.ensures)

pub invariant_of-self : goal.invariant_of-self
invariant_of-self c = subst (λ (t : ℕ). IsAhead c.ahead-self-inside.result t c.begin_ports-begun.new.self) (sym c.new-self-inside.ensures) c.ahead-self-inside.ensures.ahead

pub returns-clause-state : goal.returns-clause-state
returns-clause-state c =
    value c ∙ begun_ports c.args.cycle c.args.arrival c.args.self.now.board c.leap.new.self c.begin_ports-begun.new.self (ticked c) c.begin_ports-begun.ensures.state

pub returns-clause-serial : goal.returns-clause-serial
returns-clause-serial c =
    serial_ports c.args.cycle c.args.self.now.board c.leap.new.self c.begin_ports-begun.result.serial (ticked c) c.begin_ports-begun.ensures.serial

pub returns-clause-air : goal.returns-clause-air
returns-clause-air c = air_ports c.args.cycle c.args.self.now.board c.leap.new.self c.begin_ports-begun.result.air (ticked c) c.begin_ports-begun.ensures.air

pub returns-clause-waits : goal.returns-clause-waits
returns-clause-waits c asks = ap (λ (b : Board). is_some b.spi.shift_register) (value c) ∙ c.begin_ports-begun.ensures.waits asks
