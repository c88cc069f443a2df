use Rattle.std.proofs.Common.{◌≡◌, ◌+◌, false, min, sym, subst, ap, ◌∙◌, arith}
use Rattle.world_core.specs.Kept.{epoch}
use Rattle.node_runner.specs.Scenario.{ScenarioOf}
use Rattle.checkpoint_text.specs.Onward.{SavedAt, onward}
use Rattle.fleet_flight.specs.Paused.{IsPaused}
use Rattle.checkpoint_text.proofs.saved.Saved.epoch.Goals as goal

pub rows_to-requires-clause-paused : goal.rows_to-requires-clause-paused
rows_to-requires-clause-paused c =
    let i = c.self.inside in
    let same : c.args.scenario.now ≡ i.scenario.value = c.requires.same ∙ ap (λ (a : SavedAt). a.scenario) (sym c.self.view_is) in
    let calm : i.failed ≡ false = ap (λ (a : SavedAt). a.failed) c.self.view_is ∙ c.requires.sound in
    subst (λ (s : ScenarioOf). IsPaused (onward s i.state.value) i.floor i.floor i.nodes.items i.log.sends) (sym same) (c.self.invariant.paused calm)

pub invariant_of-self-2 : goal.invariant_of-self-2
invariant_of-self-2 c =
    let i = c.self.inside in
    let same : c.args.scenario.now ≡ i.scenario.value = c.requires.same ∙ ap (λ (a : SavedAt). a.scenario) (sym c.self.view_is) in
    let below = c.self.invariant.within in
    let e : c.min-end.result ≡ min (i.floor + epoch) i.limit = c.min-end.ensures in
    record {
      scenario = c.self.invariant.scenario;
      limit = c.self.invariant.limit;
      within = omega arith;
      order = c.self.invariant.order;
      sized = c.self.invariant.sized;
      paused = (λ q. subst (λ (s : ScenarioOf). IsPaused (onward s i.state.value) c.min-end.result c.min-end.result c.rows_to.new.nodes.items c.rows_to.new.log.sends) same c.in_ok-rows.ensures.paused);
    }
