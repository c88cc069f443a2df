-- A fleet of which the laws of the global order hold. Own to this simulator.
use Rattle.std.specs.Prelude.{◌≡◌, ℕ, ◌+◌, ◌≤◌, ◌<◌}
use Rattle.std.specs.List.{All, AllPairs}
use Rattle.world_core.specs.Topology.{IsTopology}
use Rattle.air_base.specs.NodeKind.{IsSteady}
use Rattle.world_core.specs.Sends.{sends_of}
use Rattle.world_core.specs.Order.{Fleet}

pub record IsSound {S R : Type 0} (f : Fleet S R) : Type 0 where
  pub topo : IsTopology f.topo
  pub kind : IsSteady f.kind
  pub start : f.start ≤ f.topo.limit
  -- each node keeps the byte time of the air
  pub gap : (k : ℕ) → kind.gap (f.begins k) ≡ f.topo.byte_time
  -- the earlier sends lie before the start, those of a node lie apart, and it may send again only after them
  pub inside : All (λ x. (x.node < f.topo.nodes) × (x.cycle < f.start)) f.sent
  pub spaced : (k : ℕ) → AllPairs (λ x y. x.cycle + f.topo.byte_time ≤ y.cycle) (sends_of k f.sent)
  pub free : (k : ℕ) → All (λ x. x.cycle + f.topo.byte_time ≤ kind.free (f.begins k)) (sends_of k f.sent)
