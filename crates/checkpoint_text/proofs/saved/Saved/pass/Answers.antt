use Rattle.std.proofs.Common.{◌≡◌, ◌+◌, ◌≤◌, false, min, sym, subst, ap, ◌∙◌, arith}
use Rattle.world_core.specs.Kept.{epoch}
use Rattle.node_runner.specs.Scenario.{ScenarioOf}
use Rattle.checkpoint_text.specs.Onward.{SavedAt, onward}
use Rattle.fleet_flight.specs.Paused.{IsPaused}
use Rattle.checkpoint_text.proofs.saved.Saved.pass.Goals as goal

pub pass_to-requires-clause-paused : goal.pass_to-requires-clause-paused
pass_to-requires-clause-paused c =
    let i = c.self.inside in
    let same : c.args.scenario.now ≡ i.scenario.value = c.requires.same ∙ ap (λ (a : SavedAt). a.scenario) (sym c.self.view_is) in
    let calm : i.failed ≡ false = ap (λ (a : SavedAt). a.failed) c.self.view_is ∙ c.requires.sound in
    subst (λ (s : ScenarioOf). IsPaused (onward s i.state.value) i.floor i.floor i.nodes.items i.log.sends) (sym same) (c.self.invariant.paused calm)

pub pass_to-requires-clause-more : goal.pass_to-requires-clause-more
pass_to-requires-clause-more c =
    let i = c.self.inside in
    let more = c.requires.more in
    let seen : i.floor ≡ c.args.self.now.floor = ap (λ (a : SavedAt). a.floor) c.self.view_is in
    let e : c.min-next.result ≡ min (i.floor + epoch) c.args.end = c.min-next.ensures in
    omega arith

pub pass_to-requires-clause-end : goal.pass_to-requires-clause-end
pass_to-requires-clause-end c =
    let i = c.self.inside in
    let e : c.min-next.result ≡ min (i.floor + epoch) c.args.end = c.min-next.ensures in
    let to : c.args.end ≤ c.args.scenario.now.topo.limit = subst (λ (s : ScenarioOf). c.args.end ≤ s.topo.limit) (sym c.requires.same) c.requires.within in
    omega arith

pub invariant_of-self-2 : goal.invariant_of-self-2
invariant_of-self-2 c =
    let i = c.self.inside in
    let same : c.args.scenario.now ≡ i.scenario.value = c.requires.same ∙ ap (λ (a : SavedAt). a.scenario) (sym c.self.view_is) in
    let to = c.requires.within in
    let seen = ap (λ (a : SavedAt). a.scenario.topo.limit) c.self.view_is in
    let last = c.self.invariant.limit in
    let e : c.min-next.result ≡ min (i.floor + epoch) c.args.end = c.min-next.ensures in
    record {
      scenario = c.self.invariant.scenario;
      limit = last;
      within = omega arith;
      order = c.self.invariant.order;
      sized = c.self.invariant.sized;
      paused = (λ q. subst (λ (s : ScenarioOf). IsPaused (onward s i.state.value) c.min-next.result c.min-next.result c.pass_to.new.nodes.items c.pass_to.new.log.sends) same c.in_ok-pass_to.ensures);
    }
