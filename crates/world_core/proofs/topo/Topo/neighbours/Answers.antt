use Rattle.std.proofs.Common.{◌≡◌, ◌<◌, subst, ◌∙◌, arith}
use Rattle.world_core.specs.Topology.{Topology, topology, neighbours}
use Rattle.world_core.specs.NeighbourTable.{listed, row_at}
use Rattle.world_core.proofs.NeighbourRows.{hears_listed, hears_nobody}
use Rattle.world_core.proofs.topo.Topo.neighbours.Goals as goal

pub returns-then-node-nodes-clause-value : goal.returns-then-node-nodes-clause-value
returns-then-node-nodes-clause-value c = hears_nobody c.args.self.now c.args.node c.nodes.ensures.lawful (let e = c.nodes.ensures.value in let h = c.if-node-nodes.true in omega arith)

pub returns-clause-value : goal.returns-clause-value
returns-clause-value c =
    let i = c.self.inside in
    let t = topology i.nodes i.limit i.latency i.byte_time i.links.items i.own.items i.spans.items in
    let law = c.self.invariant.0 in
    let within : c.args.node < 64 = let a = law.ranges.nodes_to in let e = c.nodes.ensures.value in let h = c.if-node-nodes.false in let v = c.self.view_is in omega arith in
    c.of_node.ensures ∙ subst (λ (u : Topology). listed (row_at i.neighbours.rows c.args.node) ≡ neighbours u c.args.node) c.self.view_is (hears_listed t i.table.rows i.neighbours.rows c.args.node law.ranges.nodes_to within c.self.invariant.1 c.self.invariant.2)
