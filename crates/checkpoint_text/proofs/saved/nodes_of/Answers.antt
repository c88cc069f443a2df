use Rattle.std.proofs.Common.{◌≡◌, ℕ, ◌<◌, false, List, [], ◌∷◌, ◌++◌, length, get_or, vec_len, sym, subst, ap, ◌∙◌, arith, rules}
use Rattle.std.proofs.lemmas.List.{get_or_default}
use Rattle.state_text.specs.Text.{NodeOf, StateOf}
use Rattle.checkpoint_text.specs.NodeOf.{node_of}
use Rattle.checkpoint_text.specs.Onward.{IsFit, origin_of, saved_node}
use Rattle.fleet_flight.specs.Paused.{HaveBegun}
use Rattle.fleet_flight.proofs.EachNode.{none_begun, one_begun}
use Rattle.checkpoint_text.proofs.saved.nodes_of.Goals as goal

pub loop-k-init : goal.loop-k-init
loop-k-init c = none_begun (origin_of c.args.scenario.now c.args.state.now) _ c.new-nodes.ensures.items

pub node_of-requires-clause-fits : goal.node_of-requires-clause-fits
node_of-requires-clause-fits c =
    let st : StateOf = c.args.state.now in
    let k : ℕ = c.loop-k.k in
    let p : NodeOf = c.index.result.now in
    let nodes : c.state.inside.nodes.items ≡ st.nodes = ap (λ (s : StateOf). s.nodes) c.state.view_is in
    let cycle : c.state.inside.cycle ≡ st.cycle = ap (λ (s : StateOf). s.cycle) c.state.view_is in
    let count = ap (λ (l : List NodeOf). length l) nodes in
    let len : length c.state.inside.nodes.items ≡ vec_len c.state.inside.nodes = search rules in
    let lt : k < length st.nodes = omega (arith, c.loop-k-test.true, c.len-k-end.ensures, len, count) in
    let at : p ≡ get_or st.nodes k p = c.index.ensures ∙ ap (λ (l : List NodeOf). get_or l k p) nodes in
    subst (λ (t : ℕ). IsFit t p) (sym cycle) (subst (IsFit st.cycle) (sym at) (c.requires.nodes k p lt))

pub loop-k-preserved : goal.loop-k-preserved
loop-k-preserved c =
    let st : StateOf = c.args.state.now in
    let k : ℕ = c.loop-k.k in
    let p : NodeOf = c.index.result.now in
    let nodes : c.state.inside.nodes.items ≡ st.nodes = ap (λ (s : StateOf). s.nodes) c.state.view_is in
    let cycle : c.state.inside.cycle ≡ st.cycle = ap (λ (s : StateOf). s.cycle) c.state.view_is in
    let count = ap (λ (l : List NodeOf). length l) nodes in
    let len : length c.state.inside.nodes.items ≡ vec_len c.state.inside.nodes = search rules in
    let lt : k < length st.nodes = omega (arith, c.loop-k-test.true, c.len-k-end.ensures, len, count) in
    let at : p ≡ saved_node st k = c.index.ensures ∙ ap (λ (l : List NodeOf). get_or l k p) nodes ∙ get_or_default st.nodes k p (record { numbers = []; io = []; sram = [] }) lt in
    let pushed : c.push.new.self.items ≡ c.loop-k.nodes.items ++ c.in_ok-node.node ∷ [] = search rules in
    one_begun (origin_of c.args.scenario.now st) k c.loop-k.nodes.items c.push.new.self.items c.in_ok-node.node c.loop-k.invariant
    (c.in_ok-node.ensures ∙ (λ i. record { cycle = cycle i; asking = false; state = node_of c.args.scenario.now k (at i); rows = [] })) pushed

pub returns : goal.returns
returns c =
    let st : StateOf = c.args.state.now in
    let nodes : c.state.inside.nodes.items ≡ st.nodes = ap (λ (s : StateOf). s.nodes) c.state.view_is in
    let count = ap (λ (l : List NodeOf). length l) nodes in
    let len : length c.state.inside.nodes.items ≡ vec_len c.state.inside.nodes = search rules in
    let e : c.loop-k.k ≡ length st.nodes = omega (arith, c.loop-k-test.false, c.loop-k.auto.k-end, c.len-k-end.ensures, len, count) in
    subst (λ (n : ℕ). HaveBegun (origin_of c.args.scenario.now st) n c.loop-k.nodes.items) e c.loop-k.invariant
