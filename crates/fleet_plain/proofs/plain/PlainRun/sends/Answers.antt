use Rattle.std.proofs.Common.{◌≡◌, ◌<◌, false, ◌∙◌, ap, sym, subst, arith}
use Rattle.std.specs.Prelude.{List}
use Rattle.std.specs.List.{filter}
use Rattle.std.proofs.lemmas.List.Elements.{All-weaker}
use Rattle.air_base.specs.declared.air.Send.{Send}
use Rattle.world_core.specs.Kept.{is_kept}
use Rattle.fleet_flight.specs.Paused.{IsPaused}
use Rattle.node_runner.specs.Scenario.{ScenarioOf, fleet_of}
use Rattle.node_runner.specs.Run.{RunAt, kept_at}
use Rattle.send_order.specs.Order.{AreOrdered}
use Rattle.fleet_plain.proofs.Kept.{kept}
use Rattle.fleet_plain.proofs.plain.PlainRun.sends.Goals as goal
use Rattle.air_base.specs.declared.bounds.TheConstants.{MOST_NODES}

pub kept_sends-requires-clause-nodes : goal.kept_sends-requires-clause-nodes
kept_sends-requires-clause-nodes c =
    let i = c.self.inside in
    let calm : i.failed ≡ false = ap (λ (r : RunAt). r.failed) c.self.view_is ∙ c.requires.sound in
    let most = c.self.invariant.scenario.topo.ranges.nodes_to in
    All-weaker (λ (x : Send). (x.node < i.scenario.value.topo.nodes) × (x.cycle < i.floor)) (λ (x : Send). x.node < MOST_NODES) (λ x h. (let n = h.0 in omega arith)) i.log.sends (c.self.invariant.paused calm).inside

pub kept_sends-requires-clause-rises : goal.kept_sends-requires-clause-rises
kept_sends-requires-clause-rises c =
    let calm : c.self.inside.failed ≡ false = ap (λ (r : RunAt). r.failed) c.self.view_is ∙ c.requires.sound in
    (c.self.invariant.paused calm).rises

pub returns : goal.returns
returns c =
    let i = c.self.inside in
    let r = c.args.self.now in
    let calm : i.failed ≡ false = ap (λ (r : RunAt). r.failed) c.self.view_is ∙ c.requires.sound in
    let paused = subst (λ (r : RunAt). IsPaused (fleet_of r.scenario) r.floor r.floor i.nodes.items i.log.sends) c.self.view_is (c.self.invariant.paused calm) in
    let same : c.args.scenario.now ≡ r.scenario = c.requires.same in
    let topo : c.lawful_topo.result.now ≡ r.scenario.topo = c.lawful_topo.ensures.value ∙ ap (λ (s : ScenarioOf). s.topo) same in
    let floor : i.floor ≡ r.floor = ap (λ (r : RunAt). r.floor) c.self.view_is in
    let zs : List Send = c.in_ok-sends.sends.items in
    let ordered = subst (λ (l : List Send). AreOrdered l zs) (λ j. filter (is_kept (topo j) (floor j)) i.log.sends) c.in_ok-sends.ensures in
    kept r.scenario r.floor i.nodes.items i.log.sends zs paused ordered ∙ ap (λ (s : ScenarioOf). kept_at s r.floor) (sym same)
