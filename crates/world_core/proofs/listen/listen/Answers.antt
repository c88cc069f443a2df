use Rattle.std.proofs.Common.{◌≡◌, ◌<◌, ℕ, true, List, get_or, take, sym, subst, ◌∙◌, ap, arith}
use Rattle.std.specs.List.{All}
use Rattle.world_core.specs.Topology.{is_linked}
use Rattle.world_core.specs.Heard.{heard_from, age_of}
use Rattle.world_core.proofs.NodeByNode.{among, among_next, among_all, are_linked}
use Rattle.world_core.proofs.listen.listen.Goals as goal

pub bounds-last-from : goal.bounds-last-from
bounds-last-from c =
    let all = subst (All (λ (k : ℕ). (k < c.args.topo.now.nodes) × (is_linked c.args.topo.now k c.args.node ≡ true))) (sym c.neighbours-from-items.ensures.value) (are_linked c.args.topo.now c.args.node) in
    let h = (all c.loop-from.from-index 0 c.loop-from-test.true).0 in
    let n = c.neighbours-from-items.ensures.lawful.ranges.nodes_to in
    let e = c.from.ensures in
    let w = c.requires.places in
    omega arith

pub gather-so_far-requires-clause-last : goal.gather-so_far-requires-clause-last
gather-so_far-requires-clause-last c =
    let all = subst (All (λ (k : ℕ). (k < c.args.topo.now.nodes) × (is_linked c.args.topo.now k c.args.node ≡ true))) (sym c.neighbours-from-items.ensures.value) (are_linked c.args.topo.now c.args.node) in
    let h = (all c.loop-from.from-index 0 c.loop-from-test.true).0 in
    let n = c.neighbours-from-items.ensures.lawful.ranges.nodes_to in
    ap (λ (k : ℕ). get_or c.args.last.now k 0) c.from.ensures ∙ c.requires.last (get_or c.neighbours-from-items.result.now c.loop-from.from-index 0) (omega arith)

pub gather-so_far-requires-clause-linked : goal.gather-so_far-requires-clause-linked
gather-so_far-requires-clause-linked c =
    let all = subst (All (λ (k : ℕ). (k < c.args.topo.now.nodes) × (is_linked c.args.topo.now k c.args.node ≡ true))) (sym c.neighbours-from-items.ensures.value) (are_linked c.args.topo.now c.args.node) in
    (all c.loop-from.from-index 0 c.loop-from-test.true).1

pub loop-from-preserved : goal.loop-from-preserved
loop-from-preserved c =
    c.gather-so_far.ensures ∙ among_next c.args.topo.now c.args.sends.now c.args.node c.args.cycle c.neighbours-from-items.result.now c.loop-from.from-index 0 c.loop-from.so_far c.loop-from-test.true c.loop-from.invariant

pub returns : goal.returns
returns c =
    among_all c.args.topo.now c.args.sends.now c.args.node c.args.cycle c.loop-from.from-index c.neighbours-from-items.result.now c.loop-from.so_far c.neighbours-from-items.ensures.value (let h = c.loop-from-test.false in let g = c.loop-from.auto.from-index-end in omega arith) c.requires.inside c.loop-from.invariant
