use Rattle.std.proofs.Common.{◌≡◌, ◌<◌, ◌≤◌, ℕ, [], vec_len, vec_capacity, length, slice_index_or}
use Rattle.neighbour_sync.specs.Rule.{air_view}
use Rattle.neighbour_sync.specs.Seats.{NodeFacts, first_node}
use Rattle.neighbour_sync.proofs.open.seat_nodes.Given as goal

abbrev pub invariant-loop-number : goal.invariant-loop-number
invariant-loop-number g l = record {
  table : l.first.table_id ≡ l.fn.first.table_id;
  view : l.first.me ≡ (air_view (g.W.World.facts l.table.shared.key.value) l.number, []);
  len : vec_len l.seats ≡ l.number;
  room : l.nodes ≤ vec_capacity l.seats;
  made : (k : ℕ) (d : NodeFacts) → k < length l.seats.items → slice_index_or l.seats.items k d ≡ first_node l.table.shared.table_id (g.W.World.facts l.table.shared.key.value) k;
}
