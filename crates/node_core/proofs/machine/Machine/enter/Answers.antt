use Rattle.std.proofs.Common.{Bool, false, if◌then◌else◌, [], ◌++◌, refl, ap, ◌∙◌, arith}
use Rattle.std.specs.Prelude.{Ok, Err}
use Rattle.board_io.specs.declared.board.Board.{Board}
use Rattle.data_space.specs.Space.{Access}
use Rattle.node_core.specs.declared.row.Kind.TheVariants as kind
use Rattle.node_core.specs.declared.bus.NodeBus.{NodeBus}
use Rattle.node_core.specs.Cycle.{row}
use Rattle.node_core.specs.Shown.{shown}
use Rattle.node_core.specs.State.{NodeState}
use Rattle.node_core.proofs.Clocks.{entry_clock}
use Rattle.node_core.proofs.Ran.{let_in, let_in_rows}
use Rattle.node_core.proofs.machine.Machine.enter.Goals as goal

pub returns-in-Ok : goal.returns-in-Ok
returns-in-Ok c =
    let m = c.args.self.now in
    let s : NodeState = shown m in
    let a : Access (Unit {0}) NodeBus = record { result = c.enter.result; cpu = c.enter.new.cpu; bus = c.enter.new.bus } in
    let kept = ap (λ (a : Access (Unit {0}) NodeBus). a.bus.io.clock) c.enter.ensures ∙ entry_clock c.args.vector.word c.args.self.now.cpu c.args.self.now.bus in
    record {
      state = ap (λ (b : Board). let u : NodeState = record s { cpu = a.cpu; board = b; sram = a.bus.sram; wait = c.args.wait; asleep = false } in u) c.entered.ensures.state
          ∙ let_in c.args.cycle c.args.wait c.args.vector m c.requires.now a c.enter.ensures (Ok _) c.in-Ok.is;
      rows = c.tell.ensures.items
          ∙ (ap (λ (b : Bool). m.rows.items ++ (if b then row c.args.cycle s (kind.Enter c.args.vector.word m.cpu.pc) else [])) c.is_within-told.ensures
          ∙ let_in_rows c.args.cycle c.args.wait c.args.vector m c.requires.now a c.enter.ensures m.rows.items (Ok _) c.in-Ok.is);
      going = λ l. record { going = c.requires.going; awake = refl; wait = refl };
      room = c.tell.ensures.room;
      clock = c.entered.ensures.clock ∙ kept;
    }

pub returns-in-Err : goal.returns-in-Err
returns-in-Err c =
    let a : Access (Unit {0}) NodeBus = record { result = c.enter.result; cpu = c.enter.new.cpu; bus = c.enter.new.bus } in
    let m = c.args.self.now in
    let kept = ap (λ (a : Access (Unit {0}) NodeBus). a.bus.io.clock) c.enter.ensures ∙ entry_clock c.args.vector.word c.args.self.now.cpu c.args.self.now.bus in
    record {
      state = c.halt.ensures.state ∙ let_in c.args.cycle c.args.wait c.args.vector c.args.self.now c.requires.now a c.enter.ensures (Err c.in-Err.cause) c.in-Err.is;
      rows = c.halt.ensures.rows ∙ let_in_rows c.args.cycle c.args.wait c.args.vector m c.requires.now a c.enter.ensures m.rows.items (Err c.in-Err.cause) c.in-Err.is;
      going = λ l. absurd (omega arith);
      room = c.halt.ensures.room;
      clock = c.halt.ensures.clock ∙ kept;
    }
