use Rattle.std.proofs.Common.{ℕ, ◌≤◌, List, sym, subst, ◌∙◌, ap}
use Rattle.world_core.specs.Topology.{greatest}
use Rattle.world_core.proofs.Latencies.{greatest_in}
use Rattle.world_core.proofs.topo.Topo.reach.Goals as goal

pub returns-clause-most : goal.returns-clause-most
returns-clause-most c =
    let i = c.self.inside in
    let r = c.self.invariant.0.ranges in
    subst (λ (n : ℕ). (1 ≤ n) × (n ≤ 65535)) (sym c.self.invariant.3) (greatest_in i.own.items i.latency 1 65535 r.own_in r.latency_from r.latency_to)
