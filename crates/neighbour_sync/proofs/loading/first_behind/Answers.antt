use Rattle.std.proofs.Common.{◌≡◌, ℕ, ◌<◌, ◌++◌, true, get_or, take, take_all, sym, ◌∙◌, ap, subst, arith}
use Rattle.std.specs.List.{All}
use Rattle.std.proofs.lemmas.List.Elements.{All-more}
use Rattle.world_core.specs.Topology.{Topology, is_linked, neighbours}
use Rattle.world_core.proofs.NodeByNode.{are_linked}
use Rattle.neighbour_sync.specs.Seats.{AirFacts}
use Rattle.neighbour_sync.specs.Loads.{IsReached}
use Rattle.neighbour_sync.specs.Looks.{IsSeenPast}
use Rattle.neighbour_sync.proofs.Reached.{all_reached, look_more}
use Rattle.neighbour_sync.proofs.Seeing.{all_before, seen_after}
use Rattle.neighbour_sync.proofs.loading.first_behind.Goals as goal

pub late_clock-requires-clause-node : goal.late_clock-requires-clause-node
late_clock-requires-clause-node g c =
    let all = subst (All (λ (k : ℕ). (k < c.args.topo.now.nodes) × (is_linked c.args.topo.now k c.args.node ≡ true))) (sym c.neighbours-from-items.ensures.value) (are_linked c.args.topo.now c.args.node) in
    (all c.loop-from.from-index 0 c.loop-from-test.true).0

pub loop-from-preserved : goal.loop-from-preserved
loop-from-preserved g c =
    let old = c.args.seat.now in
    let xs = c.neighbours-from-items.result.now in
    let i = c.loop-from.from-index in
    let l = c.loop-from.invariant.looks in
    let n = c.in_default.ensures.looks in
    let here : IsReached old.world old.sent c.args.node c.args.cycle (get_or xs i 0) = subst (λ (a : AirFacts). IsReached a.world a.sent c.args.node c.args.cycle (get_or xs i 0)) l.1 c.in_default.ensures.none in
    let past : IsSeenPast old.world c.args.node c.args.cycle n.0 (get_or xs i 0) = subst (λ (a : AirFacts). IsSeenPast a.world c.args.node c.args.cycle n.0 (get_or xs i 0)) l.1 n.2 in record {
      looks = (
        l.0 ++ n.0,
        look_more old c.loop-from.seat c.late_clock.new.seat l.0 n.0 l.1 n.1,
        All-more (IsSeenPast old.world c.args.node c.args.cycle (l.0 ++ n.0)) xs i 0 c.loop-from-test.true
            (all_before old.world c.args.node c.args.cycle (take i xs) l.0 n.0 l.2)
            (seen_after old.world c.args.node c.args.cycle (get_or xs i 0) l.0 n.0 past),
      );
      reached = All-more (IsReached old.world old.sent c.args.node c.args.cycle) xs i 0 c.loop-from-test.true c.loop-from.invariant.reached here;
    }

pub returns-clause-none : goal.returns-clause-none
returns-clause-none g c =
    let w = c.args.seat.now.world in
    let sent = c.args.seat.now.sent in
    let xs = c.neighbours-from-items.result.now in
    let P = IsReached w sent c.args.node c.args.cycle in
    let whole : All P xs = subst (All P) (take_all c.loop-from.from-index xs (let h = c.loop-from-test.false in let e = c.loop-from.auto.from-index-end in omega arith)) c.loop-from.invariant.reached in
    let same : xs ≡ neighbours w.topo c.args.node = c.neighbours-from-items.ensures.value ∙ ap (λ (t : Topology). neighbours t c.args.node) c.requires.topo in
    all_reached w sent c.args.node c.args.cycle c.requires.lawful (subst (All P) same whole)

pub returns-clause-looks : goal.returns-clause-looks
returns-clause-looks g c =
    let w = c.args.seat.now.world in
    let xs = c.neighbours-from-items.result.now in
    let l = c.loop-from.invariant.looks in
    let P = IsSeenPast w c.args.node c.args.cycle l.0 in
    let whole : All P xs = subst (All P) (take_all c.loop-from.from-index xs (let h = c.loop-from-test.false in let e = c.loop-from.auto.from-index-end in omega arith)) l.2 in
    let same : xs ≡ neighbours w.topo c.args.node = c.neighbours-from-items.ensures.value ∙ ap (λ (t : Topology). neighbours t c.args.node) c.requires.topo in
    (l.0, l.1, subst (All P) same whole)
