use Rattle.std.proofs.Common.{◌≤◌, sym, ap, subst, ◌∙◌, arith}
use Rattle.avr_base.specs.declared.interrupts.Lines.{Lines}
use Rattle.board_io.specs.declared.clocked.ClockedBoard.{ClockedBoard}
use Rattle.board_io.specs.Lagging.{IsAhead, caught_up}
use Rattle.board_io.specs.Lines.{lines_of}
use Rattle.board_io.specs.declared.ahead.Forecast.{Forecast}
use Rattle.board_io.proofs.Served.{served_ahead, served_late}
use Rattle.board_io.proofs.lagging.LaggingBoard.entered.Goals as goal

pub invariant_of-self : goal.invariant_of-self
invariant_of-self c =
    let i = c.self.inside in
    let w = c.args.v.word in
    let at = c.get.ensures.value in
    let within : i.held.clock ≤ i.ahead.steady = omega (arith, at) in
    let a : Forecast = record i.ahead { next = c.min-next.result; lines = c.lines-lines.result.bits; clear = c.clear_until-self-inside.result } in
    let bits = ap (λ (l : Lines). l.bits) (c.lines-lines.ensures ∙ ap lines_of c.entered.ensures) in
    let clear = c.clear_until-self-inside.ensures in
    subst (IsAhead a i.held.clock) (sym c.entered.ensures) (served_ahead i.ahead i.held.clock i.held.board c.self.invariant within w c.min-next.result c.lines-lines.result.bits c.clear_until-self-inside.result (omega arith) (omega arith) bits clear.within clear.down)

pub returns-clause-state : goal.returns-clause-state
returns-clause-state c =
    let i = c.self.inside in
    let at = c.get.ensures.value in
    let within : i.held.clock ≤ i.ahead.steady = omega (arith, at) in
    ap (caught_up i.ahead.settled i.held.clock) c.entered.ensures ∙ served_late i.ahead i.held.clock i.held.board c.self.invariant within c.args.v.word c.args.self.now c.self.view_is

pub returns-clause-clock : goal.returns-clause-clock
returns-clause-clock c = ap (λ (v : ClockedBoard). v.clock) c.self.view_is
