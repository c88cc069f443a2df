use Rattle.std.proofs.Common.{Some, refl, sym, subst, ap, ◌∙◌, arith}
use Rattle.world_core.specs.Topology.{Topology}
use Rattle.node_runner.specs.Scenario.{ScenarioOf}
use Rattle.fleet_threads.specs.declared.parts.Parts.{Parts}
use Rattle.fleet_threads.specs.Run.{IsRun}
use Rattle.fleet_threads.proofs.Epochs.{first_tied}
use Rattle.fleet_threads.proofs.run.ThreadRun.new.Goals as goal

pub invariant_of-result : goal.invariant_of-result
invariant_of-result c =
    let sc : ScenarioOf = c.args.scenario.now in
    let first : Parts = record { clocks = c.in-Ok.clocks; air = c.in-Ok.air; members = c.add_members.new.members } in
    subst (λ (s : ScenarioOf). IsRun s 0 c.limit-limit.result (Some first)) (sym c.of.ensures)
    (record {
      scenario = c.lawful_topo.ensures.sound;
      limit = c.limit-limit.ensures.value ∙ ap (λ (t : Topology). t.limit) c.lawful_topo.ensures.value;
      within = omega arith;
      tied = first_tied sc c.in-Ok.clocks.table c.in-Ok.airs.items c.add_members.new.members.items c.lawful_topo.ensures.sound c.in-Ok.ensures.nodes c.in_ok-add_members.ensures.airs c.in_ok-add_members.ensures.first first refl refl c.in-Ok.ensures.world c.in-Ok.ensures.record;
    })
