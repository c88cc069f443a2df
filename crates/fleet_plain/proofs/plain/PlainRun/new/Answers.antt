use Rattle.std.proofs.Common.{◌<◌, false, sym, subst, ap, ◌∙◌, arith}
use Rattle.std.proofs.lemmas.List.Elements.{All-nil}
use Rattle.air_base.specs.declared.air.Send.{Send}
use Rattle.world_core.specs.Chain.{LogFacts}
use Rattle.world_core.specs.Topology.{Topology}
use Rattle.fleet_flight.proofs.Epoch.{first_paused}
use Rattle.node_runner.specs.Scenario.{ScenarioOf}
use Rattle.fleet_plain.specs.Run.{IsRun, at_reset}
use Rattle.fleet_plain.proofs.plain.PlainRun.new.Goals as goal

pub invariant_of-result : goal.invariant_of-result
invariant_of-result c =
    let sc : ScenarioOf = c.args.scenario.now in
    subst (λ (s : ScenarioOf). IsRun record { scenario = s; floor = 0; failed = false } c.limit-limit.result c.in_ok-nodes.nodes.items c.in_ok-log.log.sends) (sym c.of.ensures)
    (record {
      scenario = c.lawful_topo.ensures.sound;
      limit = c.limit-limit.ensures.value ∙ ap (λ (t : Topology). t.limit) c.lawful_topo.ensures.value;
      within = omega arith;
      paused = (λ e. first_paused (at_reset sc) c.in_ok-nodes.nodes.items c.in_ok-log.log.sends (All-nil (λ (x : Send). (x.node < sc.topo.nodes) × (x.cycle < 0))) (λ i j d low high. absurd (omega (arith, low, high)))
          c.in_ok-nodes.ensures (ap (λ (l : LogFacts). l.sends) c.in_ok-log.ensures));
    })
