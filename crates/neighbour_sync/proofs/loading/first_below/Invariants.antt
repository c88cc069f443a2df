use Rattle.std.proofs.Common.{◌≡◌, ◌<◌, ◌≤◌, ℕ, List}
use Rattle.world_core.specs.Sends.{sends_below}
use Rattle.world_core.specs.Posted.{sent_of}
use Rattle.neighbour_sync.specs.Loads.{looked, AreReached}
use Rattle.neighbour_sync.proofs.loading.first_below.Given as goal

abbrev pub invariant-loop-node : goal.invariant-loop-node
invariant-loop-node g l = record {
  looks : (more : List (ℕ × ℕ)) × AreReached l.node l.floor more × (l.seat ≡ looked l.fn.seat more);
  posted : (k : ℕ) → k < l.node → sends_below l.fn.seat.world.sends k l.floor ≤ sent_of l.fn.seat.sent k;
}
