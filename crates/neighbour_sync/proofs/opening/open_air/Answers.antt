use Rattle.std.proofs.Common.{sym, subst, ◌∙◌, ap}
use Rattle.neighbour_sync.specs.Seats.{AirFacts, NodeFacts, AreFirstNodes}
use Rattle.neighbour_sync.specs.Record.{first_record}
use Rattle.neighbour_sync.proofs.opening.open_air.Goals as goal

pub new-requires-2 : goal.new-requires-2
new-requires-2 g c =
    let same = c.in_ok-clocks.ensures.air in
    record { world = ap (λ (a : AirFacts). a.world) same; sent = ap (λ (a : AirFacts). a.sent) same }

pub node_airs-requires : goal.node_airs-requires
node_airs-requires g c = λ k d lt. ap (λ (n : NodeFacts). n.world) (c.in_ok-clocks.ensures.nodes.1 k d lt)

pub returns : goal.returns
returns g c =
    let first = c.in_ok-clocks.ensures in
    record {
      world = first.world;
      «record» = c.in_ok-air.ensures ∙ ap (λ (a : AirFacts). first_record a.table a.world a.loads) first.air;
      nodes = subst (AreFirstNodes c.in_ok-clocks.clocks.table (g.W.World.facts c.args.world.now)) (sym c.in_ok-nodes.ensures) first.nodes;
    }
