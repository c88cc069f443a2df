use Rattle.std.proofs.Common.{◌≡◌, ◌+◌, false, true, [], lit≤}
use Rattle.world_core.specs.Topology.{IsTopology, topology}
use Rattle.sample_maker.specs.Network.{ring_links}
use Rattle.sample_maker.proofs.InRing.{lawful}
use Rattle.sample_maker.proofs.network.ring_topology.Goals as goal

pub unreachable-requires : goal.unreachable-requires
unreachable-requires c =
    let links : c.in_ok-links.links.items ≡ ring_links c.args.nodes = c.in_ok-links.ensures in
    let law : IsTopology (topology c.args.nodes 1000000 (1 + c.from-latency.result) 512 c.in_ok-links.links.items [] []) =
    rw (c.from-latency.ensures, links) (lawful c.args.number c.args.nodes c.requires.some c.requires.few) in
    let bad : false ≡ true = c.in-Err.ensures.ok.1 (law, lit≤ tt) in
    absurd (cc)
