use Rattle.std.proofs.Common.{◌≡◌, ◌≤◌, ◌⊎◌, inl, inr, false, subst}
use Rattle.world_core.specs.Topology.{Topology, topology, is_linked}
use Rattle.world_core.proofs.Links.{not_linked}
use Rattle.world_core.proofs.topo.Topo.linked.Goals as goal
use Rattle.world_core.proofs.topo.Topo.linked.Goals.{then-from-self-via-then-from-self, then-from-self-via-else-from-self+then-to-self}

pub returns-then-from-self : goal.returns-then-from-self
returns-then-from-self c =
    let i = c.self.inside in
    let t = topology i.nodes i.limit i.latency i.byte_time i.links.items i.own.items i.spans.items in
    let out : (i.nodes ≤ c.args.from) ⊎ (i.nodes ≤ c.args.to) = elim c.then-from-self.branch [
      | then-from-self-via-then-from-self w ↦ inl w.if-from-self.true
      | then-from-self-via-else-from-self+then-to-self w ↦ inr w.if-to-self.true
    ] in
    subst (λ (u : Topology). false ≡ is_linked u c.args.from c.args.to) c.self.view_is (not_linked t c.args.from c.args.to c.self.invariant.0 out)
