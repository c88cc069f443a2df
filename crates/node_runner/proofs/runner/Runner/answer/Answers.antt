use Rattle.std.proofs.Common.{sym, ◌∙◌, ap}
use Rattle.node_runner.specs.Scenario.{fleet_of}
use Rattle.node_runner.specs.Place.{Place}
use Rattle.world_core.specs.Settled.{truth}
use Rattle.world_core.specs.Order.{facts_of}
use Rattle.node_runner.specs.Place.{noted_of}
use Rattle.node_runner.proofs.Counts.{noted_is}
use Rattle.node_runner.proofs.Events.{answer_keeps}
use Rattle.node_runner.proofs.runner.Runner.answer.Goals as goal

pub invariant_of-self : goal.invariant_of-self
invariant_of-self c =
    let i = c.self.inside in
    answer_keeps i.scenario.value i.number i.since i.node c.answer.new.self i.unnoted i.count i.limit c.args.heard c.self.invariant
    (ap (λ (p : Place). p.asking) c.self.view_is ∙ c.requires.asking)
    (c.requires.right ∙ ap (λ (p : Place). truth (facts_of (fleet_of p.scenario)) p.number p.cycle) (sym c.self.view_is))
    c.answer.ensures

pub returns-clause-count : goal.returns-clause-count
returns-clause-count c = noted_is _ _ _ _ (invariant_of-self c) ∙ sym (noted_is _ _ _ _ c.self.invariant) ∙ ap noted_of c.self.view_is
