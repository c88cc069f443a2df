use Rattle.std.proofs.Common.{◌≡◌, ◌≤◌, length, ap, subst, arith, ◌∙◌}
use Rattle.world_core.specs.Topology.{Topology}
use Rattle.world_core.specs.declared.world.WorldFacts.{WorldFacts}
use Rattle.world_core.specs.Lawful.{IsLawful}
use Rattle.world_core.proofs.Counts.{no_sends_past}
use Rattle.sync_core.proofs.run.try_post.Goals as goal

pub returns-then-node-nodes : goal.returns-then-node-nodes
returns-then-node-nodes c may =
    let w = c.args.core.now.world in
    let law : IsLawful w = subst IsLawful c.world.ensures c.topo.ensures.lawful in
    let same : c.nodes.result ≡ w.topo.nodes = c.nodes.ensures.value ∙ ap (λ (t : Topology). t.nodes) c.topo.ensures.same ∙ ap (λ (v : WorldFacts). v.topo.nodes) c.world.ensures in
    let past : w.topo.nodes ≤ c.args.node = let h = c.if-node-nodes.true in omega arith in
    let none = ap length (no_sends_past w c.args.node law past) in
    omega arith
