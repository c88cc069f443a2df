-- The network of a sample: nodes in a ring. Own to this simulator.
use Rattle.std.specs.Prelude.{◌≡◌, ◌≢◌, ℕ, ◌+◌, ◌%◌, ◌<◌, ◌==◌, if◌then◌else◌, List, [], map}
use Rattle.std.specs.List.{range_with_len}
use Rattle.world_core.specs.declared.link_table.Link.{Link}
use Rattle.world_core.specs.Topology.{Topology, topology}
use Rattle.sample_maker.specs.declared.network.TheConstants.{BYTE_TIME, LATENCIES, LIMIT}

-- each node is heard by the next one, and the last by node 0
abbrev pub link_from : ℕ → ℕ → Link
link_from nodes k = record { from = k; to = (k + 1) % nodes }

-- a node alone has no link
unfoldable pub ring_links : ℕ → List Link
ring_links nodes = if nodes == 1 then [] else map (link_from nodes) (range_with_len 0 nodes)

-- a run of 1,000,000 cycles, in which a byte is heard for 512; the latency follows from the number
abbrev pub ring_topology : ℕ → ℕ → Topology
ring_topology number nodes = topology nodes LIMIT (1 + number % LATENCIES) BYTE_TIME (ring_links nodes) [] []

-- node `to` comes next after node `from` in a ring of several nodes
abbrev pub IsNext : ℕ → ℕ → ℕ → Type 0
IsNext nodes from to = (nodes ≢ 1) × (from < nodes) × (to ≡ (from + 1) % nodes)
