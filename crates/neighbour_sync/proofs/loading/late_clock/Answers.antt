use Rattle.std.proofs.Common.{◌≡◌, ◌-◌, ◌∙◌, ap, arith}
use Rattle.world_core.specs.Topology.{Topology, latency_of}
use Rattle.world_core.proofs.Steps.{passed_by}
use Rattle.neighbour_sync.proofs.loading.late_clock.Goals as goal

pub returns-else-clock-saturating_sub-clause-none : goal.returns-else-clock-saturating_sub-clause-none
returns-else-clock-saturating_sub-clause-none g c =
    let w = c.args.seat.now.world in
    let t : c.latency_of.result ≡ latency_of w.topo c.args.from c.args.node = c.latency_of.ensures.value ∙ ap (λ (t : Topology). latency_of t c.args.from c.args.node) c.requires.topo in
    λ _. passed_by w c.args.seat.now.sent c.args.from (c.args.cycle - latency_of w.topo c.args.from c.args.node) c.load_clock-clock.result c.load_clock-clock.ensures.counted
    (omega (arith, c.if-clock-saturating_sub.false, c.saturating_sub.ensures, t))
