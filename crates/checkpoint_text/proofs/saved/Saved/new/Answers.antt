use Rattle.std.proofs.Common.{◌≡◌, ℕ, ◌<◌, false, sym, subst, ap, ◌∙◌, arith}
use Rattle.std.specs.List.{All}
use Rattle.std.proofs.lemmas.List.Elements.{All-weaker}
use Rattle.air_base.specs.declared.air.Send.{Send}
use Rattle.world_core.specs.Chain.{LogFacts}
use Rattle.world_core.specs.Topology.{Topology}
use Rattle.node_runner.specs.Scenario.{ScenarioOf}
use Rattle.state_text.specs.Text.{StateOf}
use Rattle.fleet_flight.specs.Paused.{HaveBegun}
use Rattle.checkpoint_text.specs.Onward.{SavedAt, origin_of}
use Rattle.checkpoint_text.specs.Paused.{IsSaved}
use Rattle.fleet_flight.proofs.Epoch.{first_paused}
use Rattle.checkpoint_text.proofs.Sized.{all_sized}
use Rattle.checkpoint_text.proofs.saved.Saved.new.Goals as goal
use Rattle.air_base.specs.declared.bounds.TheConstants.{MOST_NODES}

pub record_of-requires-clause-nodes : goal.record_of-requires-clause-nodes
record_of-requires-clause-nodes c =
    let st : StateOf = c.args.state.now in
    let sends : c.deref.result.now ≡ st.sends = c.deref.ensures.value ∙ ap (λ (s : StateOf). s.sends) c.state.view_is in
    let most = c.lawful_topo.ensures.sound.topo.ranges.nodes_to in
    subst (All (λ (x : Send). x.node < MOST_NODES)) (sym sends)
    (All-weaker (λ (x : Send). (x.node < c.args.scenario.now.topo.nodes) × (x.cycle < st.cycle)) (λ (x : Send). x.node < MOST_NODES) (λ x h. (let n = h.0 in omega arith)) st.sends c.requires.sends)

pub invariant_of-result : goal.invariant_of-result
invariant_of-result c =
    let sc : ScenarioOf = c.args.scenario.now in
    let st : StateOf = c.args.state.now in
    let cycle : c.state.inside.cycle ≡ st.cycle = ap (λ (s : StateOf). s.cycle) c.state.view_is in
    let sends : c.deref.result.now ≡ st.sends = c.deref.ensures.value ∙ ap (λ (s : StateOf). s.sends) c.state.view_is in
    let limit : c.limit-limit.result ≡ sc.topo.limit = c.limit-limit.ensures.value ∙ ap (λ (t : Topology). t.limit) c.lawful_topo.ensures.value in
    let early = c.requires.early in
    let begun : IsSaved (record { scenario = sc; state = st; floor = st.cycle; failed = false }) c.limit-limit.result c.in_ok-nodes.nodes.items c.in_ok-log.log.sends = record {
      scenario = c.lawful_topo.ensures.sound;
      limit = limit;
      within = omega arith;
      order = c.requires.order;
      sized = all_sized sc st c.requires;
      paused = (λ e. first_paused (origin_of sc st) c.in_ok-nodes.nodes.items c.in_ok-log.log.sends c.requires.sends c.requires.rises
          (subst (λ (n : ℕ). HaveBegun (origin_of sc st) n c.in_ok-nodes.nodes.items) c.requires.count c.in_ok-nodes.ensures) (ap (λ (l : LogFacts). l.sends) c.in_ok-log.ensures ∙ sends));
    } in
    let at : (record { scenario = sc; state = st; floor = st.cycle; failed = false }) ≡ (record { scenario = c.of.result.value; state = c.of-2.result.value; floor = c.state.inside.cycle; failed = false }) =
    (λ i. record { scenario = sym c.of.ensures i; state = sym c.of-2.ensures i; floor = sym cycle i; failed = false }) in
    subst (λ (a : SavedAt). IsSaved a c.limit-limit.result c.in_ok-nodes.nodes.items c.in_ok-log.log.sends) at begun
