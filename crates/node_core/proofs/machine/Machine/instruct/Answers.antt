use Rattle.std.proofs.Common.{◌≡◌, ◌++◌, Bool, List, refl, sym, ap, ◌∙◌, arith}
use Rattle.std.specs.Prelude.{Ok, Err}
use Rattle.data_space.specs.Sequence.{Outcome}
use Rattle.node_core.specs.declared.row.Row.{Row}
use Rattle.node_core.specs.declared.bus.NodeBus.{NodeBus}
use Rattle.node_core.specs.Cycle.{after_instruction}
use Rattle.node_core.specs.Execute.{executed}
use Rattle.node_core.specs.Shown.{shown}
use Rattle.node_core.specs.State.{NodeState}
use Rattle.node_core.proofs.Clocks.{executed_clock}
use Rattle.node_core.proofs.Ran.{ran, ran_rows, refused, refused_rows}
use Rattle.node_core.proofs.Sei.{sei_left_on}
use Rattle.node_core.proofs.machine.Machine.instruct.Goals as goal

pub owes-owed-requires : goal.owes-owed-requires
owes-owed-requires c =
    let m = c.args.self.now in
    let o = c.op-op.result in
    let a : Outcome NodeBus = record { result = c.execute.result; cpu = c.execute.new.cpu; bus = c.execute.new.bus } in
    let flash = c.args.self.now.program.bytes in
    let done : a ≡ executed flash o m.cpu m.bus = c.execute.ensures.outcome in
    sei_left_on flash o m.cpu m.bus c.in-Ok.done c.execute.result c.execute.new.cpu c.in-Ok.is (ap (λ (x : Outcome NodeBus). x.result) done) (ap (λ (x : Outcome NodeBus). x.cpu) done)

pub returns-then-refuses : goal.returns-then-refuses
returns-then-refuses c =
    let m = c.args.self.now in
    let is = sym c.refuses.ensures ∙ c.if-refuses.true in
    record {
      state = c.halt.ensures.state ∙ refused c.args.cycle (shown m) c.op-op.result c.op-op.ensures is;
      rows = c.halt.ensures.rows ∙ ap (λ (l : List Row). m.rows.items ++ l) (refused_rows c.args.cycle (shown m) c.op-op.result c.op-op.ensures is);
      going = λ l. absurd (omega arith);
      room = c.halt.ensures.room;
      clock = c.halt.ensures.clock;
    }

pub returns-in-Ok : goal.returns-in-Ok
returns-in-Ok c =
    let m = c.args.self.now in
    let o = c.op-op.result in
    let s : NodeState = shown m in
    let a : Outcome NodeBus = record { result = c.execute.result; cpu = c.execute.new.cpu; bus = c.execute.new.bus } in
    let flash = c.args.self.now.program.bytes in
    let done : a ≡ executed flash o m.cpu m.bus = c.execute.ensures.outcome in
    let runs = sym c.refuses.ensures ∙ c.if-refuses.false in
    record {
      state = c.end.ensures.state
          ∙ (ap (λ (b : Bool). let u : NodeState = record (after_instruction s o (Ok c.in-Ok.done) a.cpu a.bus) { owed = b } in u) c.owes-owed.ensures
          ∙ ran c.args.cycle m o c.op-op.ensures runs c.requires.now a flash refl done (Ok c.in-Ok.done) c.in-Ok.is);
      rows = c.end.ensures.rows ∙ ran_rows c.args.cycle m o c.op-op.ensures runs c.requires.now a flash refl done m.rows.items (Ok c.in-Ok.done) c.in-Ok.is;
      going = c.end.ensures.going;
      room = c.end.ensures.room;
      clock = c.end.ensures.clock ∙ (ap (λ (x : Outcome NodeBus). x.bus.io.clock) done ∙ executed_clock flash o m.cpu m.bus);
    }

pub returns-in-Err : goal.returns-in-Err
returns-in-Err c =
    let m = c.args.self.now in
    let o = c.op-op.result in
    let a : Outcome NodeBus = record { result = c.execute.result; cpu = c.execute.new.cpu; bus = c.execute.new.bus } in
    let flash = c.args.self.now.program.bytes in
    let done : a ≡ executed flash o m.cpu m.bus = c.execute.ensures.outcome in
    let runs = sym c.refuses.ensures ∙ c.if-refuses.false in
    record {
      state = c.halt-in-Err.ensures.state ∙ ran c.args.cycle m o c.op-op.ensures runs c.requires.now a flash refl done (Err c.in-Err.cause) c.in-Err.is;
      rows = c.halt-in-Err.ensures.rows ∙ ran_rows c.args.cycle m o c.op-op.ensures runs c.requires.now a flash refl done m.rows.items (Err c.in-Err.cause) c.in-Err.is;
      going = λ l. absurd (omega arith);
      room = c.halt-in-Err.ensures.room;
      clock = c.halt-in-Err.ensures.clock ∙ (ap (λ (x : Outcome NodeBus). x.bus.io.clock) done ∙ executed_clock flash o m.cpu m.bus);
    }
