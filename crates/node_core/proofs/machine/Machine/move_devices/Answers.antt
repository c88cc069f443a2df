use Rattle.std.proofs.Common.{◌≡◌, ◌++◌, ℕ, Option, List, false, is_some, append_assoc, sym, ap, ◌∙◌}
use Rattle.board_io.specs.declared.board.Board.{Board}
use Rattle.board_io.specs.Cycle.{board_begun, sent_by}
use Rattle.node_core.specs.declared.row.Row.{Row}
use Rattle.node_core.specs.Cycle.{sent_rows, serial_rows}
use Rattle.node_core.specs.Shown.{shown}
use Rattle.node_core.specs.State.{NodeState}
use Rattle.node_core.proofs.Cycles.{devices_move, devices_tell}
use Rattle.node_core.proofs.machine.Machine.move_devices.Goals as goal

pub returns-clause-state : goal.returns-clause-state
returns-clause-state c =
    let m = c.args.self.now in
    let s : NodeState = shown m in
    let going : is_some s.stop ≡ false = ap is_some c.requires.going in
    let board = c.begin-begun.ensures.state ∙ ap (λ (a : Option ℕ). board_begun c.args.cycle a m.bus.io.board) c.arrival-arrival.ensures in
    c.put_sent.ensures.state ∙ (c.put_serial.ensures.state
    ∙ (ap (λ (b : Board). let u : NodeState = record s { board = b } in u) board ∙ sym (devices_move c.args.cycle s going)))

pub returns-clause-rows : goal.returns-clause-rows
returns-clause-rows c =
    let m = c.args.self.now in
    let t = c.args.cycle in
    let s : NodeState = shown m in
    let going : is_some s.stop ≡ false = ap is_some c.requires.going in
    let e = c.begin-begun.ensures in
    let serial : List Row = serial_rows t s c.begin-begun.result.serial in
    let sent : List Row = sent_rows t s (sent_by c.begin-begun.result.air) in
    c.put_sent.ensures.rows
    ∙ ((λ i. c.put_serial.ensures.rows i ++ sent_rows t (c.put_serial.ensures.state i) (sent_by c.begin-begun.result.air))
    ∙ (append_assoc m.rows.items serial sent
    ∙ ((λ i. m.rows.items ++ (serial_rows t s (e.serial i) ++ sent_rows t s (sent_by (e.air i))))
    ∙ ap (λ (l : List Row). m.rows.items ++ l) (sym (devices_tell t s going)))))
