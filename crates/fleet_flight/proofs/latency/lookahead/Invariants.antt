use Rattle.std.proofs.Common.{ℕ, ◌<◌, ◌≤◌}
use Rattle.std.specs.Prelude.{slice_index_or}
use Rattle.world_core.specs.declared.link_table.Link.{Link}
use Rattle.world_core.specs.Topology.{latency_of}
use Rattle.world_core.specs.Kept.{epoch}
use Rattle.fleet_flight.proofs.latency.lookahead.Given as goal

abbrev pub invariant-loop-link : goal.invariant-loop-link
invariant-loop-link l = record {
  some : 1 ≤ l.least;
  most : l.least ≤ epoch;
  each : (k : ℕ) (d : Link) → k < l.link-index → l.least ≤ latency_of l.topo (slice_index_or l.topo.links k d).from (slice_index_or l.topo.links k d).to;
}
