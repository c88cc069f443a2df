use Rattle.std.proofs.Common.{◌≡◌, ℕ, ◌<◌, ◌++◌, true, get_or, take, take_all, sym, ◌∙◌, ap, subst, arith}
use Rattle.std.specs.List.{All}
use Rattle.std.proofs.lemmas.List.Elements.{All-more}
use Rattle.world_core.specs.Topology.{Topology, is_linked, neighbours}
use Rattle.world_core.proofs.NodeByNode.{are_linked}
use Rattle.neighbour_sync.specs.Seats.{NodeFacts}
use Rattle.neighbour_sync.specs.Looks.{IsSeenPast}
use Rattle.neighbour_sync.proofs.Seeing.{peek_more, all_before, seen_after}
use Rattle.neighbour_sync.proofs.looking.first_behind.Goals as goal

pub late_clock-requires-clause-node : goal.late_clock-requires-clause-node
late_clock-requires-clause-node g c =
    let node = c.number.result in
    let all = subst (All (λ (k : ℕ). (k < c.args.topo.now.nodes) × (is_linked c.args.topo.now k node ≡ true))) (sym c.neighbours-from-items.ensures.value) (are_linked c.args.topo.now node) in
    (all c.loop-from.from-index 0 c.loop-from-test.true).0

pub loop-from-preserved : goal.loop-from-preserved
loop-from-preserved g c =
    let old = c.args.seat.now in
    let xs = c.neighbours-from-items.result.now in
    let i = c.loop-from.from-index in
    let l = c.loop-from.invariant in
    let n = c.in_default.ensures.none in
    let here : IsSeenPast old.world old.number c.args.cycle n.0 (get_or xs i 0) = subst (λ (a : NodeFacts). IsSeenPast a.world a.number c.args.cycle n.0 (get_or xs i 0)) l.1 n.2 in (
      l.0 ++ n.0,
      peek_more old c.loop-from.seat c.late_clock.new.seat l.0 n.0 l.1 n.1,
      All-more (IsSeenPast old.world old.number c.args.cycle (l.0 ++ n.0)) xs i 0 c.loop-from-test.true
          (all_before old.world old.number c.args.cycle (take i xs) l.0 n.0 l.2)
          (seen_after old.world old.number c.args.cycle (get_or xs i 0) l.0 n.0 here),
    )

pub returns-clause-none : goal.returns-clause-none
returns-clause-none g c =
    let old = c.args.seat.now in
    let xs = c.neighbours-from-items.result.now in
    let l = c.loop-from.invariant in
    let P = IsSeenPast old.world old.number c.args.cycle l.0 in
    let whole : All P xs = subst (All P) (take_all c.loop-from.from-index xs (let h = c.loop-from-test.false in let e = c.loop-from.auto.from-index-end in omega arith)) l.2 in
    let same : xs ≡ neighbours old.world.topo old.number = c.neighbours-from-items.ensures.value ∙ ap (λ (t : Topology). neighbours t c.number.result) c.requires.topo ∙ ap (λ (n : ℕ). neighbours old.world.topo n) c.number.ensures in
    (l.0, l.1, subst (All P) same whole)
