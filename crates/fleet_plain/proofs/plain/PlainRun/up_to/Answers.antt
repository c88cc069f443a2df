use Rattle.std.proofs.Common.{◌≡◌, ◌≤◌, false, sym, subst, ap, ◌∙◌, arith}
use Rattle.fleet_flight.specs.Paused.{IsPaused}
use Rattle.node_runner.specs.Scenario.{ScenarioOf, fleet_of}
use Rattle.node_runner.specs.Run.{RunAt}
use Rattle.fleet_plain.proofs.plain.PlainRun.up_to.Goals as goal

pub rows_to-requires-clause-paused : goal.rows_to-requires-clause-paused
rows_to-requires-clause-paused c =
    let i = c.self.inside in
    let same : c.args.scenario.now ≡ i.scenario.value = c.requires.same ∙ ap (λ (r : RunAt). r.scenario) (sym c.self.view_is) in
    let calm : i.failed ≡ false = ap (λ (r : RunAt). r.failed) c.self.view_is ∙ c.requires.sound in
    subst (λ (s : ScenarioOf). IsPaused (fleet_of s) i.floor i.floor i.nodes.items i.log.sends) (sym same) (c.self.invariant.paused calm)

pub rows_to-requires-clause-end : goal.rows_to-requires-clause-end
rows_to-requires-clause-end c = subst (λ (s : ScenarioOf). c.args.end ≤ s.topo.limit) (sym c.requires.same) c.requires.within

pub invariant_of-self-2 : goal.invariant_of-self-2
invariant_of-self-2 c =
    let i = c.self.inside in
    let same : c.args.scenario.now ≡ i.scenario.value = c.requires.same ∙ ap (λ (r : RunAt). r.scenario) (sym c.self.view_is) in
    let to = c.requires.within in
    let seen = ap (λ (r : RunAt). r.scenario.topo.limit) c.self.view_is in
    let last = c.self.invariant.limit in
    record {
      scenario = c.self.invariant.scenario;
      limit = last;
      within = omega arith;
      paused = (λ q. subst (λ (s : ScenarioOf). IsPaused (fleet_of s) c.args.end c.args.end c.rows_to.new.nodes.items c.rows_to.new.log.sends) same c.in_ok-rows.ensures.paused);
    }
