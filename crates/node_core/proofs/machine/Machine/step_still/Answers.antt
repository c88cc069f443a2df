use Rattle.std.proofs.Common.{◌≡◌, sym, ap, ◌∙◌}
use Rattle.avr_decoder.specs.declared.op.Op.{Op}
use Rattle.data_space.specs.Sequence.{Outcome}
use Rattle.node_core.specs.declared.bus.NodeBus.{NodeBus}
use Rattle.node_core.specs.declared.machine.Machine.{Machine}
use Rattle.node_core.specs.Execute.{executed}
use Rattle.node_core.specs.Pace.Leaps.{IsStill}
use Rattle.node_core.proofs.Sei.{sei_left_on}
use Rattle.node_core.proofs.Sprints.{none_of}
use Rattle.node_core.proofs.Stills.{did, leaves}
use Rattle.node_core.proofs.machine.Machine.step_still.Goals.{After-execute_waiting}
use Rattle.node_core.proofs.machine.Machine.step_still.Goals as goal

abbrev left : After-execute_waiting → Outcome NodeBus
left c = record { result = c.execute_waiting.result; cpu = c.execute_waiting.new.cpu; bus = c.execute_waiting.new.bus }

same : (c : After-execute_waiting) → (let x : Machine = c.args.self.now in record x { bus = c.execute_waiting.new.bus }) ≡ c.args.self.now
same c =
    let m : Machine = c.args.self.now in
    let still = leaves c.op_at-op.result.now m.bus (c.is_still.ensures c.if-not-is_still.false) m.program.bytes c.args.core.now (left c) c.execute_waiting.ensures.outcome in
    λ i. let x : Machine = record m { bus = still i } in x

pub owes-requires : goal.owes-requires
owes-requires c =
    let done = c.execute_waiting.ensures.outcome in
    sei_left_on c.args.self.now.program.bytes c.op_at-op.result.now c.args.core.now c.args.self.now.bus c.in-Ok.done c.execute_waiting.result c.execute_waiting.new.cpu c.in-Ok.is (ap (λ (x : Outcome NodeBus). x.result) done) (ap (λ (x : Outcome NodeBus). x.cpu) done)

pub returns-then-owes-clause-same : goal.returns-then-owes-clause-same
returns-then-owes-clause-same c = same (goal.at.returns-then-owes-clause-same c).After-execute_waiting

pub returns-else-owes-clause-same : goal.returns-else-owes-clause-same
returns-else-owes-clause-same c = same (goal.at.returns-else-owes-clause-same c).After-execute_waiting

pub returns-in-Err-clause-same : goal.returns-in-Err-clause-same
returns-in-Err-clause-same c = same (goal.at.returns-in-Err-clause-same c).After-execute_waiting

pub returns-else-owes-clause-step : goal.returns-else-owes-clause-step
returns-else-owes-clause-step c some =
    let m : Machine = c.args.self.now in
    let o : Op = c.op_at-op.result.now in
    let h : IsStill o m.bus = c.is_still.ensures c.if-not-is_still.false in
    record {
      none = sym c.due.ensures ∙ none_of c.due.result (sym c.is_some.ensures ∙ c.if-is_some.false);
      some = some;
      op = o;
      fetched = c.op_at-op.ensures;
      wakes = h.wakes;
      settled = sym c.if-owes.false ∙ c.owes.ensures;
      does = did o m.bus h m.program.bytes c.args.core.now (left (goal.at.returns-else-owes-clause-step c).After-execute_waiting) c.execute_waiting.ensures.outcome c.in-Ok.done c.in-Ok.is;
    }
