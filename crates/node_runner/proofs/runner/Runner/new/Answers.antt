use Rattle.std.proofs.Common.{ℕ, false, sym, subst, ◌∙◌, ap}
use Rattle.node_core.specs.declared.row.Row.{Row}
use Rattle.world_core.specs.Topology.{Topology}
use Rattle.air_base.specs.NodeRun.{Timed}
use Rattle.node_core.specs.State.{NodeState}
use Rattle.node_runner.specs.Scenario.{ScenarioOf}
use Rattle.node_runner.specs.Place.{IsRunner}
use Rattle.node_runner.proofs.Events.{place, begins}
use Rattle.node_runner.proofs.runner.Runner.new.Goals as goal

pub invariant_of-result : goal.invariant_of-result
invariant_of-result c =
    let sc : ScenarioOf = c.args.scenario.now in
    let num : ℕ = c.args.node in
    let v = sym c.in_ok-begun.ensures in
    let lim = sym (c.limit.ensures.value ∙ ap (λ (t : Topology). t.limit) c.lawful_topo.ensures.value) in
    subst (λ (s : ScenarioOf). IsRunner (place s num 0 c.in_ok-begun.begun false) c.in_ok-begun.begun 0 c.limit.result) (sym c.of.ensures)
    (subst (λ (l : ℕ). IsRunner (place sc num 0 c.in_ok-begun.begun false) c.in_ok-begun.begun 0 l) lim
    (subst (λ (w : Timed NodeState Row). IsRunner (place sc num 0 w false) w 0 sc.topo.limit) v
    (begins sc num c.lawful_topo.ensures.sound c.requires)))
