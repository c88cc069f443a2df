use Rattle.std.proofs.Common.{◌≡◌, Option, Some, None, is_some, not, false, ℕ, refl, sym, ap, ◌∙◌}
use Rattle.std.proofs.lemmas.Bool.{false≢true}
use Rattle.board_io.specs.Cycle.{board_begun}
use Rattle.board_io.specs.declared.board.Board.{Board}
use Rattle.board_io.proofs.Lags.{quiet_now}
use Rattle.board_io.proofs.Leaps.{air_quiet, begun_quiet, serial_quiet}
use Rattle.board_io.proofs.lagging.LaggingBoard.begin.Goals as goal

none_is : (a : Option ℕ) → is_some a ≡ false → a ≡ None
none_is None e = refl
none_is (Some byte) e = absurd (false≢true (sym e))

pub returns-then-leap_whole-clause-state : goal.returns-then-leap_whole-clause-state
returns-then-leap_whole-clause-state c =
    let t = c.args.cycle in
    let v : Board = c.args.self.now.board in
    let quiet = quiet_now t v (c.leap_whole.ensures.idle c.if-leap_whole.true) in
    c.leap_whole.ensures.state c.if-leap_whole.true
    ∙ (sym (begun_quiet t v quiet) ∙ ap (λ (a : Option ℕ). board_begun t a v) (sym (none_is c.args.arrival (c.is_none.ensures ∙ ap not c.if-is_none.true))))

pub returns-then-leap_whole-clause-clock : goal.returns-then-leap_whole-clause-clock
returns-then-leap_whole-clause-clock c = c.leap_whole.ensures.clock c.if-leap_whole.true

pub returns-then-leap_whole-clause-serial : goal.returns-then-leap_whole-clause-serial
returns-then-leap_whole-clause-serial c =
    sym (serial_quiet c.args.cycle c.args.self.now.board (quiet_now c.args.cycle c.args.self.now.board (c.leap_whole.ensures.idle c.if-leap_whole.true)))

pub returns-then-leap_whole-clause-air : goal.returns-then-leap_whole-clause-air
returns-then-leap_whole-clause-air c =
    sym (air_quiet c.args.cycle c.args.self.now.board (quiet_now c.args.cycle c.args.self.now.board (c.leap_whole.ensures.idle c.if-leap_whole.true)))
