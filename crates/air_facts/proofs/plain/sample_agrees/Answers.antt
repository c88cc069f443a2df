use Rattle.std.proofs.Common.{sym, subst}
use Rattle.std.specs.List.{All}
use Rattle.air_base.specs.declared.air.Send.{Send}
use Rattle.world_core.specs.Topology.{Topology, IsInside}
use Rattle.air_facts.proofs.ByNodes.{posted_inside}
use Rattle.air_facts.proofs.plain.sample_agrees.Goals as goal

pub heard_of-requires-then-eq : goal.heard_of-requires-then-eq
heard_of-requires-then-eq c =
    let w = c.args.world.now in
    let inside = posted_inside w c.args.sent.now c.topo-topo.ensures.lawful in
    subst (λ (t : Topology). All (λ x. IsInside t x.node x.cycle) c.args.so_far.now) (sym c.topo-topo.ensures.same)
    (subst (All (λ (x : Send). IsInside w.topo x.node x.cycle)) (sym c.requires.posted) inside)
