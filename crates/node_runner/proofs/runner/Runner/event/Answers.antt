use Rattle.std.proofs.Common.{◌≡◌, ◌<◌, ℕ, ◌+◌, min, true, refl, sym, subst, ◌∙◌, ap, arith}
use Rattle.air_base.specs.NodeRun.{Asks, Timed}
use Rattle.node_core.specs.Cycle.{node_kind}
use Rattle.node_core.specs.Reached.{IsReached}
use Rattle.node_core.specs.State.{NodeState}
use Rattle.node_core.specs.declared.row.Row.{Row}
use Rattle.node_core.specs.declared.node.Reached.{Reached}
use Rattle.node_runner.specs.declared.runner.Event.{Event}
use Rattle.node_runner.specs.declared.runner.Event.TheVariants as event
use Rattle.node_runner.specs.Place.{Place}
use Rattle.node_runner.specs.Event.{IsEvent}
use Rattle.node_runner.specs.Place.{noted_of}
use Rattle.node_runner.proofs.Counts.{noted_is}
use Rattle.node_runner.proofs.Events.{place, rests_keeps, sends_keeps, asks_keeps, event_turn, event_limit, event_stopped, event_no_memory, event_sent, event_ask}
use Rattle.node_runner.proofs.runner.Runner.event.Goals as goal
use Rattle.node_runner.proofs.runner.Runner.event.Goals.{then-to-self, else-to-self}

pub invariant_of-self : goal.invariant_of-self
invariant_of-self c =
    let i = c.self.inside in
    let r = subst (λ (r : Reached). IsReached i.node c.min-to.result r c.run_until.new.self) c.in-Cycle.is c.run_until.ensures in
    rests_keeps i.scenario.value i.number i.since i.node c.run_until.new.self i.unnoted i.count i.limit c.args.quantum c.min-to.result c.self.invariant
    (ap (λ (p : Place). p.asking) c.self.view_is ∙ c.requires.calm) (ap (λ (p : Place). p.unnoted) c.self.view_is ∙ c.requires.noted) (c.min-to.ensures ∙ ap (λ (n : ℕ). min (n + c.args.quantum) i.limit) c.cycle.ensures)
    c.min-to.result r.0 (omega arith)

pub invariant_of-self-in-Sent : goal.invariant_of-self-in-Sent
invariant_of-self-in-Sent c =
    let i = c.self.inside in
    let r = subst (λ (r : Reached). IsReached i.node c.min-to.result r c.run_until.new.self) c.in-Sent.is c.run_until.ensures in
    sends_keeps i.scenario.value i.number i.since i.node c.run_until.new.self i.unnoted i.count i.limit c.args.quantum c.min-to.result c.self.invariant
    (ap (λ (p : Place). p.asking) c.self.view_is ∙ c.requires.calm) (ap (λ (p : Place). p.unnoted) c.self.view_is ∙ c.requires.noted) (c.min-to.ensures ∙ ap (λ (n : ℕ). min (n + c.args.quantum) i.limit) c.cycle.ensures)
    c.in-Sent.cycle c.in-Sent.byte r.0 r.1

pub invariant_of-self-in-Ask : goal.invariant_of-self-in-Ask
invariant_of-self-in-Ask c =
    let i = c.self.inside in
    let r = subst (λ (r : Reached). IsReached i.node c.min-to.result r c.run_until.new.self) c.in-Ask.is c.run_until.ensures in
    let here : c.in-Ask.cycle ≡ c.run_until.new.self.cycle = ap (λ (x : Timed NodeState Row). x.cycle) (sym r.1.after) in
    asks_keeps i.scenario.value i.number i.since i.node c.run_until.new.self i.unnoted i.count i.limit c.args.quantum c.min-to.result c.self.invariant
    (ap (λ (p : Place). p.asking) c.self.view_is ∙ c.requires.calm) (ap (λ (p : Place). p.unnoted) c.self.view_is ∙ c.requires.noted) (c.min-to.ensures ∙ ap (λ (n : ℕ). min (n + c.args.quantum) i.limit) c.cycle.ensures)
    (subst (λ (t : ℕ). t < c.min-to.result) here r.0) (subst (λ (t : ℕ). Asks node_kind i.node t c.run_until.new.self) here r.1)

pub invariant_of-self-in-Stopped : goal.invariant_of-self-in-Stopped
invariant_of-self-in-Stopped c =
    let i = c.self.inside in
    let r = subst (λ (r : Reached). IsReached i.node c.min-to.result r c.run_until.new.self) c.in-Stopped.is c.run_until.ensures in
    rests_keeps i.scenario.value i.number i.since i.node c.run_until.new.self i.unnoted i.count i.limit c.args.quantum c.min-to.result c.self.invariant
    (ap (λ (p : Place). p.asking) c.self.view_is ∙ c.requires.calm) (ap (λ (p : Place). p.unnoted) c.self.view_is ∙ c.requires.noted) (c.min-to.ensures ∙ ap (λ (n : ℕ). min (n + c.args.quantum) i.limit) c.cycle.ensures)
    c.run_until.new.self.cycle r.1.rests r.0

pub invariant_of-self-in-NoMemory : goal.invariant_of-self-in-NoMemory
invariant_of-self-in-NoMemory c =
    let i = c.self.inside in
    let r = subst (λ (r : Reached). IsReached i.node c.min-to.result r c.run_until.new.self) c.in-NoMemory.is c.run_until.ensures in
    rests_keeps i.scenario.value i.number i.since i.node c.run_until.new.self i.unnoted i.count i.limit c.args.quantum c.min-to.result c.self.invariant
    (ap (λ (p : Place). p.asking) c.self.view_is ∙ c.requires.calm) (ap (λ (p : Place). p.unnoted) c.self.view_is ∙ c.requires.noted) (c.min-to.ensures ∙ ap (λ (n : ℕ). min (n + c.args.quantum) i.limit) c.cycle.ensures)
    c.run_until.new.self.cycle r.1 r.0

pub returns-in-Sent-clause-event : goal.returns-in-Sent-clause-event
returns-in-Sent-clause-event c =
    let i = c.self.inside in
    let r = subst (λ (r : Reached). IsReached i.node c.min-to.result r c.run_until.new.self) c.in-Sent.is c.run_until.ensures in
    subst (λ (old : Place). IsEvent old c.args.quantum (event.Sent (record { node = i.number; cycle = c.in-Sent.cycle; byte = c.in-Sent.byte })) (place i.scenario.value i.number i.since c.run_until.new.self true)) c.self.view_is
    (event_sent i.scenario.value i.number i.since i.node c.run_until.new.self i.unnoted i.count i.limit c.args.quantum c.min-to.result c.self.invariant
    (ap (λ (p : Place). p.asking) c.self.view_is ∙ c.requires.calm) (ap (λ (p : Place). p.unnoted) c.self.view_is ∙ c.requires.noted) (c.min-to.ensures ∙ ap (λ (n : ℕ). min (n + c.args.quantum) i.limit) c.cycle.ensures)
    c.in-Sent.cycle c.in-Sent.byte r.0 r.1)

pub returns-in-Ask-clause-event : goal.returns-in-Ask-clause-event
returns-in-Ask-clause-event c =
    let i = c.self.inside in
    let r = subst (λ (r : Reached). IsReached i.node c.min-to.result r c.run_until.new.self) c.in-Ask.is c.run_until.ensures in
    let here : c.in-Ask.cycle ≡ c.run_until.new.self.cycle = ap (λ (x : Timed NodeState Row). x.cycle) (sym r.1.after) in
    subst (λ (old : Place). IsEvent old c.args.quantum event.Ask (place i.scenario.value i.number i.since c.run_until.new.self i.unnoted)) c.self.view_is
    (event_ask i.scenario.value i.number i.since i.node c.run_until.new.self i.unnoted i.count i.limit c.args.quantum c.min-to.result c.self.invariant
    (ap (λ (p : Place). p.asking) c.self.view_is ∙ c.requires.calm) (ap (λ (p : Place). p.unnoted) c.self.view_is ∙ c.requires.noted) (c.min-to.ensures ∙ ap (λ (n : ℕ). min (n + c.args.quantum) i.limit) c.cycle.ensures)
    (subst (λ (t : ℕ). t < c.min-to.result) here r.0) (subst (λ (t : ℕ). Asks node_kind i.node t c.run_until.new.self) here r.1))

pub returns-in-Stopped-clause-event : goal.returns-in-Stopped-clause-event
returns-in-Stopped-clause-event c =
    let i = c.self.inside in
    let r = subst (λ (r : Reached). IsReached i.node c.min-to.result r c.run_until.new.self) c.in-Stopped.is c.run_until.ensures in
    subst (λ (old : Place). IsEvent old c.args.quantum event.Ended (place i.scenario.value i.number i.since c.run_until.new.self i.unnoted)) c.self.view_is
    (event_stopped i.scenario.value i.number i.since i.node c.run_until.new.self i.unnoted i.count i.limit c.args.quantum c.min-to.result c.self.invariant
    (ap (λ (p : Place). p.asking) c.self.view_is ∙ c.requires.calm) (ap (λ (p : Place). p.unnoted) c.self.view_is ∙ c.requires.noted) (c.min-to.ensures ∙ ap (λ (n : ℕ). min (n + c.args.quantum) i.limit) c.cycle.ensures)
    c.run_until.new.self.cycle r.1.rests r.0 r.1.stopped)

pub returns-in-NoMemory-clause-event : goal.returns-in-NoMemory-clause-event
returns-in-NoMemory-clause-event c =
    let i = c.self.inside in
    let r = subst (λ (r : Reached). IsReached i.node c.min-to.result r c.run_until.new.self) c.in-NoMemory.is c.run_until.ensures in
    subst (λ (old : Place). IsEvent old c.args.quantum event.NoMemory (place i.scenario.value i.number i.since c.run_until.new.self i.unnoted)) c.self.view_is
    (event_no_memory i.scenario.value i.number i.since i.node c.run_until.new.self i.unnoted i.count i.limit c.args.quantum c.min-to.result c.self.invariant
    (ap (λ (p : Place). p.asking) c.self.view_is ∙ c.requires.calm) (ap (λ (p : Place). p.unnoted) c.self.view_is ∙ c.requires.noted) (c.min-to.ensures ∙ ap (λ (n : ℕ). min (n + c.args.quantum) i.limit) c.cycle.ensures)
    c.run_until.new.self.cycle r.1 r.0)

pub returns-after-to-self-clause-event : goal.returns-after-to-self-clause-event
returns-after-to-self-clause-event c =
    let i = c.self.inside in
    let r = subst (λ (r : Reached). IsReached i.node c.min-to.result r c.run_until.new.self) c.in-Cycle.is c.run_until.ensures in
    let P : Event → Place → Type 0 = λ e old. IsEvent old c.args.quantum e (place i.scenario.value i.number i.since c.run_until.new.self i.unnoted) in
    elim c.if-to-self.branch [
      | then-to-self w ↦ subst (P c.if-to-self.result) c.self.view_is (subst (λ (e : Event). P e (place i.scenario.value i.number i.since i.node i.unnoted)) (sym w.result-is)
          (event_turn i.scenario.value i.number i.since i.node c.run_until.new.self i.unnoted i.count i.limit c.args.quantum c.min-to.result c.self.invariant
          (ap (λ (p : Place). p.asking) c.self.view_is ∙ c.requires.calm) (ap (λ (p : Place). p.unnoted) c.self.view_is ∙ c.requires.noted) (c.min-to.ensures ∙ ap (λ (n : ℕ). min (n + c.args.quantum) i.limit) c.cycle.ensures)
          c.min-to.result r.0 (omega arith) refl (omega (arith, w.if-to-self.true)) r.1))
      | else-to-self w ↦ subst (P c.if-to-self.result) c.self.view_is (subst (λ (e : Event). P e (place i.scenario.value i.number i.since i.node i.unnoted)) (sym w.result-is)
          (event_limit i.scenario.value i.number i.since i.node c.run_until.new.self i.unnoted i.count i.limit c.args.quantum c.min-to.result c.self.invariant
          (ap (λ (p : Place). p.asking) c.self.view_is ∙ c.requires.calm) (ap (λ (p : Place). p.unnoted) c.self.view_is ∙ c.requires.noted) (c.min-to.ensures ∙ ap (λ (n : ℕ). min (n + c.args.quantum) i.limit) c.cycle.ensures)
          c.min-to.result r.0 (omega arith) refl (omega (arith, w.if-to-self.false))))
    ]

pub returns-after-to-self-clause-count : goal.returns-after-to-self-clause-count
returns-after-to-self-clause-count c = noted_is _ _ _ _ (invariant_of-self c) ∙ sym (noted_is _ _ _ _ c.self.invariant) ∙ ap noted_of c.self.view_is

pub returns-in-Sent-clause-count : goal.returns-in-Sent-clause-count
returns-in-Sent-clause-count c = noted_is _ _ _ _ (invariant_of-self-in-Sent c) ∙ sym (noted_is _ _ _ _ c.self.invariant) ∙ ap noted_of c.self.view_is

pub returns-in-Ask-clause-count : goal.returns-in-Ask-clause-count
returns-in-Ask-clause-count c = noted_is _ _ _ _ (invariant_of-self-in-Ask c) ∙ sym (noted_is _ _ _ _ c.self.invariant) ∙ ap noted_of c.self.view_is

pub returns-in-Stopped-clause-count : goal.returns-in-Stopped-clause-count
returns-in-Stopped-clause-count c = noted_is _ _ _ _ (invariant_of-self-in-Stopped c) ∙ sym (noted_is _ _ _ _ c.self.invariant) ∙ ap noted_of c.self.view_is

pub returns-in-NoMemory-clause-count : goal.returns-in-NoMemory-clause-count
returns-in-NoMemory-clause-count c = noted_is _ _ _ _ (invariant_of-self-in-NoMemory c) ∙ sym (noted_is _ _ _ _ c.self.invariant) ∙ ap noted_of c.self.view_is
